use Rattle.std.proofs.Common.{rules, ◌≡◌, List, length, map, sym, ◌∙◌, ap, ap₂, subst}
use Rattle.std.proofs.lemmas.List.{with_items_is}
use Rattle.layer_candidates.specs.HeldRows.{held_row}
use Rattle.layer_nodes.specs.declared.node.Node.{Node}
use Rattle.layer_nodes.specs.Ending.{suffixes_in}
use Rattle.layer_nodes.specs.Nodes.{NodeView, LayerView}
use Rattle.layer_nodes.specs.Routing.{routed_arcs}
use Rattle.layer_nodes.specs.Stored.{node_view_by, HasLayer}
use Rattle.layer_nodes.proofs.Ended.{suffixes-seen, layer-ends, layer-ended}
use Rattle.layer_nodes.proofs.ending.set_suffixes.Goals as goal

pub end_nodes-requires : goal.end_nodes-requires
end_nodes-requires c =
    let l = c.layer.inside in
    let n = c.next.inside in
    let below : suffixes_in c.as_slice-3.result.now ≡ map (λ (b : NodeView). b.suffix) c.args.next.now.nodes = ap suffixes_in c.as_slice-3.ensures.value ∙ (suffixes-seen (held_row n.held.value) (routed_arcs n.routes.items n.arcs.items) n.nodes.items ∙ ap (λ (v : LayerView). map (λ (b : NodeView). b.suffix) v.nodes) c.next.view_is) in
    layer-ends l.words l.room l.nodes.cap l.arcs.cap l.routes.cap (held_row l.held.value) l.routes.items l.arcs.items l.nodes.items c.args.layer.now c.layer.view_is c.layer.invariant _ _ _ _ (ap₂ routed_arcs c.as_slice-2.ensures.value c.as_slice.ensures.value) c.as_mut_slice.ensures.value below
    c.requires.arcs c.requires.leads

pub invariant_of-layer : goal.invariant_of-layer
invariant_of-layer c =
    let l = c.layer.inside in
    let n = c.next.inside in
    let new = c.end_nodes.new.nodes in
    let below : suffixes_in c.as_slice-3.result.now ≡ map (λ (b : NodeView). b.suffix) c.args.next.now.nodes = ap suffixes_in c.as_slice-3.ensures.value ∙ (suffixes-seen (held_row n.held.value) (routed_arcs n.routes.items n.arcs.items) n.nodes.items ∙ ap (λ (v : LayerView). map (λ (b : NodeView). b.suffix) v.nodes) c.next.view_is) in
    let h = layer-ended l.words l.room l.nodes.cap l.arcs.cap l.routes.cap (held_row l.held.value) l.routes.items l.arcs.items l.nodes.items c.args.layer.now c.layer.view_is c.layer.invariant _ _ _ _ (ap₂ routed_arcs c.as_slice-2.ensures.value c.as_slice.ensures.value) c.as_mut_slice.ensures.value below
    new c.end_nodes.ensures in
    let size : length new ≡ l.nodes.len = h.size ∙ search rules in
    subst (λ ns. HasLayer l.room ns l.nodes.cap l.arcs.items l.arcs.cap l.routes.cap) (sym (with_items_is l.nodes new size)) h.stays

pub returns : goal.returns
returns c =
    let l = c.layer.inside in
    let n = c.next.inside in
    let new = c.end_nodes.new.nodes in
    let below : suffixes_in c.as_slice-3.result.now ≡ map (λ (b : NodeView). b.suffix) c.args.next.now.nodes = ap suffixes_in c.as_slice-3.ensures.value ∙ (suffixes-seen (held_row n.held.value) (routed_arcs n.routes.items n.arcs.items) n.nodes.items ∙ ap (λ (v : LayerView). map (λ (b : NodeView). b.suffix) v.nodes) c.next.view_is) in
    let h = layer-ended l.words l.room l.nodes.cap l.arcs.cap l.routes.cap (held_row l.held.value) l.routes.items l.arcs.items l.nodes.items c.args.layer.now c.layer.view_is c.layer.invariant _ _ _ _ (ap₂ routed_arcs c.as_slice-2.ensures.value c.as_slice.ensures.value) c.as_mut_slice.ensures.value below
    new c.end_nodes.ensures in
    let size : length new ≡ l.nodes.len = h.size ∙ search rules in
    let view : List Node → LayerView = λ ns. record { words = l.words; nodes = map (node_view_by (held_row l.held.value) (routed_arcs l.routes.items l.arcs.items)) ns; nodes_room = l.room; arcs_room = l.arcs.cap } in
    ap view (with_items_is l.nodes new size) ∙ h.ended
