use Rattle.std.proofs.Common.{length, slice_get, option_map, ap, subst, sym, ◌∙◌, arith}
use Rattle.std.proofs.lemmas.List.{length-map}
use Rattle.layer_candidates.specs.HeldRows.{held_row}
use Rattle.layer_nodes.specs.declared.node.Node.{Node}
use Rattle.layer_nodes.specs.Holding.{AreHeld}
use Rattle.layer_nodes.specs.Routing.{routed_arcs}
use Rattle.layer_nodes.specs.Nodes.{NodeView, LayerView}
use Rattle.layer_nodes.specs.Stored.{node_view_by}
use Rattle.layer_nodes.proofs.Holding.{held-at, row-is}
use Rattle.layer_nodes.proofs.layer.Layer.row.Goals as goal

pub row-requires : goal.row-requires
row-requires c =
    let s = c.self.inside in
    let node = c.index.result.now in
    let less = c.requires.place in
    let same = ap (λ (l : LayerView). length l.nodes) c.self.view_is in
    let long = length-map s.nodes.items (node_view_by (held_row s.held.value) (routed_arcs s.routes.items s.arcs.items)) in
    let held = subst (λ (l : LayerView). AreHeld c.args.region.now l.nodes) (sym c.self.view_is) c.requires.held in
    let here = held-at c.args.region.now (held_row s.held.value) (routed_arcs s.routes.items s.arcs.items) s.nodes.items c.args.node node held (omega arith) in
    (_, ap (λ (n : Node). slice_get c.args.region.now.rows n.row) c.index.ensures ∙ here.found)

pub returns : goal.returns
returns c =
    let s = c.self.inside in
    let node = c.index.result.now in
    let less = c.requires.place in
    let same = ap (λ (l : LayerView). length l.nodes) c.self.view_is in
    let long = length-map s.nodes.items (node_view_by (held_row s.held.value) (routed_arcs s.routes.items s.arcs.items)) in
    let held = subst (λ (l : LayerView). AreHeld c.args.region.now l.nodes) (sym c.self.view_is) c.requires.held in
    let there = sym (ap (λ (n : Node). slice_get c.args.region.now.rows n.row) c.index.ensures) ∙ c.row.ensures.found in
    ap (λ (l : LayerView). option_map (λ (n : NodeView). n.row) (slice_get l.nodes c.args.node)) (sym c.self.view_is)
    ∙ row-is c.args.region.now (held_row s.held.value) (routed_arcs s.routes.items s.arcs.items) s.nodes.items c.args.node node c.row.result.now held (omega arith) there
