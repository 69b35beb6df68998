use Rattle.std.proofs.Common.{◌≡◌, List, length, slice_get, Some, option_map, ap, subst, arith}
use Rattle.dp_laws.specs.Diagrams.Nodes.{DdNode}
use Rattle.layer_nodes.specs.Holding.{AreHeld}
use Rattle.layer_nodes.specs.Nodes.{NodeView}
use Rattle.layer_build.specs.Layers.{SpaceView, last_layer}
use Rattle.layer_build.proofs.Going.{count-seen}
use Rattle.layer_build.proofs.Held.{newest-nodes}
use Rattle.layer_build.proofs.Reading.{read-last}
use Rattle.layer_build.proofs.workspace.Workspace.last_row.Goals as goal

pub row-requires : goal.row-requires
row-requires c =
    let i = c.self.inside in let h = c.self.invariant in
    record {
      place = (let count = count-seen i h in let same = ap (λ (s : SpaceView). length (last_layer s.layers)) c.self.view_is in let within = c.requires in omega (arith, count, same, within));
      held = subst (λ (nodes : List NodeView). AreHeld i.stack.region nodes) (newest-nodes i.stack) (h.rows.held_rows i.stack.last h.rows.low (omega arith));
    }

pub returns : goal.returns
returns c =
    let i = c.self.inside in let h = c.self.invariant in
    subst (λ (s : SpaceView). option_map (λ (n : DdNode). n.row) (slice_get (last_layer s.layers) c.args.node) ≡ Some c.row.result.now) c.self.view_is
    (read-last i h c.args.node (λ (n : DdNode). n.row) c.row.result.now c.row.ensures)
