use Rattle.std.proofs.Common.{rules, ◌≡◌, ◌≤◌, List, length, map, sym, ◌∙◌, ap, subst}
use Rattle.std.proofs.lemmas.List.{with_items_is, length-map}
use Rattle.dp_model.specs.Lists.{Each}
use Rattle.layer_candidates.specs.HeldRows.{held_row}
use Rattle.layer_nodes.specs.declared.node.Node.{Node}
use Rattle.layer_nodes.specs.Nodes.{LayerView}
use Rattle.layer_nodes.specs.Ending.{ended_last, at_end_in}
use Rattle.layer_nodes.specs.Routing.{routed_arcs}
use Rattle.layer_nodes.specs.Stored.{node_view_by, HasArcsIn}
use Rattle.layer_nodes.proofs.Ended.{last-views, last-lie}
use Rattle.layer_nodes.proofs.ending.set_last_suffixes.Goals as goal

pub invariant_of-layer : goal.invariant_of-layer
invariant_of-layer c =
    let l = c.layer.inside in
    let i = c.layer.invariant in
    let new = c.end_last.new.nodes in
    let is : new ≡ map at_end_in l.nodes.items = c.end_last.ensures ∙ ap (map at_end_in) c.as_mut_slice.ensures.value in
    let long : length new ≡ length l.nodes.items = ap length is ∙ length-map l.nodes.items at_end_in in
    let size : length new ≡ l.nodes.len = long ∙ search rules in
    let items = with_items_is l.nodes new size in
    record {
      small = i.small;
      fits = subst (λ (ns : _). length ns ≤ l.room) (sym items) (subst (λ n. n ≤ l.room) (sym long) i.fits);
      nodes_hold = i.nodes_hold;
      few_arcs = i.few_arcs;
      routes_hold = i.routes_hold;
      arcs_lie = subst (Each (HasArcsIn l.arcs.items)) (sym (items ∙ is)) (last-lie l.arcs.items l.nodes.items i.arcs_lie);
    }

pub returns : goal.returns
returns c =
    let l = c.layer.inside in
    let row = held_row l.held.value in
    let new = c.end_last.new.nodes in
    let is : new ≡ map at_end_in l.nodes.items = c.end_last.ensures ∙ ap (map at_end_in) c.as_mut_slice.ensures.value in
    let size : length new ≡ l.nodes.len = ap length is ∙ (length-map l.nodes.items at_end_in ∙ search rules) in
    let view : List Node → LayerView = λ ns. record { words = l.words; nodes = map (node_view_by row (routed_arcs l.routes.items l.arcs.items)) ns; nodes_room = l.room; arcs_room = l.arcs.cap } in
    ap view (with_items_is l.nodes new size ∙ is)
    ∙ (ap (λ ns. record (view l.nodes.items) { nodes = ns }) (last-views row (routed_arcs l.routes.items l.arcs.items) l.nodes.items) ∙ ap ended_last c.layer.view_is)
