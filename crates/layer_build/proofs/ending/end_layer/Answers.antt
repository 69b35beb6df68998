use Rattle.std.proofs.Common.{rules, ◌≡◌, ◌+◌, List, length, map, set, slice_index_or, refl, sym, ◌∙◌, ap, subst, arith}
use Rattle.std.proofs.lemmas.List.{with_items_is, length-set}
use Rattle.dp_model.specs.Lists.{Each}
use Rattle.dp_laws.specs.declared.arc.DdArc.{DdArc}
use Rattle.layer_nodes.specs.Nodes.{NodeView, LayerView}
use Rattle.layer_nodes.specs.Ending.{MayLead, ended_layer}
use Rattle.layer_build.specs.Stacked.{no_layer, place_of, nodes_in}
use Rattle.layer_build.proofs.Going.{lent}
use Rattle.layer_build.proofs.Ended.{layer-ended, stands-above, next-newest}
use Rattle.layer_build.proofs.Walked.{place-held}
use Rattle.layer_build.proofs.ending.end_layer.Goals as goal

pub set_suffixes-requires-clause-leads : goal.set_suffixes-requires-clause-leads
set_suffixes-requires-clause-leads c =
    let s = c.args.stack.now in
    let depth = c.args.depth in
    let test = c.if-depth-stack-2.true in
    let held = place-held s depth c.requires.stored (omega arith) in
    let old : c.index_mut.result.now ≡ slice_index_or s.layers.items (place_of s.vars s.first depth) no_layer = lent s.layers.items c.place_of-at.result (place_of s.vars s.first depth) c.index_mut.result.now _ c.index_mut.ensures.value c.place_of-at.ensures held in
    let Leads : List NodeView → List NodeView → Type 0 = λ l m. Each (λ (node : NodeView). Each (λ (arc : DdArc). MayLead (map (λ (other : NodeView). other.suffix) l) arc.target) node.arcs) m in
    subst (λ (l : LayerView). Leads s.newest.nodes l.nodes) (sym old)
    (subst (λ m. Leads s.newest.nodes m) (stands-above s depth (omega arith)) (subst (λ l. Leads l (nodes_in s depth)) (next-newest s (depth + 1) test) (c.requires.leads (omega arith))))

pub returns-then-depth-stack-2 : goal.returns-then-depth-stack-2
returns-then-depth-stack-2 c =
    let s = c.args.stack.now in
    let depth = c.args.depth in
    let test = c.if-depth-stack-2.true in
    let held = place-held s depth c.requires.stored (omega arith) in
    let old : c.index_mut.result.now ≡ slice_index_or s.layers.items c.place_of-at.result no_layer = lent s.layers.items c.place_of-at.result c.place_of-at.result c.index_mut.result.now _ c.index_mut.ensures.value refl (omega arith) in
    let is : c.set_suffixes.new.layer ≡ ended_layer (map (λ (other : NodeView). other.suffix) (nodes_in s (depth + 1))) (slice_index_or s.layers.items c.place_of-at.result no_layer) =
    c.set_suffixes.ensures ∙ (ap (λ l. ended_layer (map (λ (other : NodeView). other.suffix) l) c.index_mut.result.now) (sym (next-newest s (depth + 1) test)) ∙ ap (ended_layer (map (λ (other : NodeView). other.suffix) (nodes_in s (depth + 1)))) old) in
    layer-ended s depth c.place_of-at.result (set s.layers.items c.place_of-at.result c.set_suffixes.new.layer) c.set_suffixes.new.layer c.requires.stored (omega arith) c.place_of-at.ensures is refl _ refl refl refl refl refl refl

pub end_at-requires-clause-leads : goal.end_at-requires-clause-leads
end_at-requires-clause-leads c =
    let s = c.args.stack.now in
    let depth = c.args.depth in
    let deep = c.requires.last in
    let first = c.if-depth-stack.false in
    let test = c.if-depth-stack-2.false in
    let Leads : List NodeView → List NodeView → Type 0 = λ l m. Each (λ (node : NodeView). Each (λ (arc : DdArc). MayLead (map (λ (other : NodeView). other.suffix) l) arc.target) node.arcs) m in
    let all = subst (λ m. Leads (nodes_in s (depth + 1)) m) (stands-above s depth (omega arith)) (c.requires.leads (omega arith)) in
    let both = subst (λ l. Leads l (slice_index_or s.layers.items (place_of s.vars s.first depth) no_layer).nodes) (stands-above s (depth + 1) (omega arith)) all in
    let here = subst (λ at. Leads (slice_index_or s.layers.items (place_of s.vars s.first (depth + 1)) no_layer).nodes (slice_index_or s.layers.items at no_layer).nodes) (sym c.place_of-at.ensures) both in
    let there = subst (λ at. Leads (slice_index_or s.layers.items at no_layer).nodes (slice_index_or s.layers.items c.place_of-at.result no_layer).nodes) (sym c.place_of-below.ensures) here in
    subst (λ (ls : List LayerView). Leads (slice_index_or ls c.place_of-below.result no_layer).nodes (slice_index_or ls c.place_of-at.result no_layer).nodes) (sym c.as_mut_slice.ensures.value) there

pub returns : goal.returns
returns c =
    let s = c.args.stack.now in
    let depth = c.args.depth in
    let deep = c.requires.last in
    let first = c.if-depth-stack.false in
    let test = c.if-depth-stack-2.false in
    let at = c.place_of-at.result in
    let below = c.place_of-below.result in
    let next : (slice_index_or s.layers.items below no_layer).nodes ≡ nodes_in s (depth + 1) = ap (λ i. (slice_index_or s.layers.items i no_layer).nodes) c.place_of-below.ensures ∙ sym (stands-above s (depth + 1) (omega arith)) in
    let x = ended_layer (map (λ (other : NodeView). other.suffix) (nodes_in s (depth + 1))) (slice_index_or s.layers.items at no_layer) in
    let is : c.end_at.new.layers ≡ set s.layers.items at x =
    c.end_at.ensures ∙ (ap (λ (ls : List LayerView). set ls at (ended_layer (map (λ (other : NodeView). other.suffix) (slice_index_or ls below no_layer).nodes) (slice_index_or ls at no_layer))) c.as_mut_slice.ensures.value
    ∙ ap (λ l. set s.layers.items at (ended_layer (map (λ (other : NodeView). other.suffix) l) (slice_index_or s.layers.items at no_layer))) next) in
    let size : length c.end_at.new.layers ≡ s.layers.len = ap length is ∙ (length-set s.layers.items at x ∙ search rules) in
    layer-ended s depth at c.end_at.new.layers x c.requires.stored (omega arith) c.place_of-at.ensures refl is _ refl refl refl refl refl (with_items_is s.layers c.end_at.new.layers size)
