use Rattle.std.proofs.Common.{◌≡◌, ◌<◌, ◌≤◌, length, Some, option_map, sym, ap, subst, arith}
use Rattle.dp_laws.specs.Diagrams.Nodes.{DdNode, node_at}
use Rattle.layer_nodes.specs.Holding.{AreHeld}
use Rattle.layer_nodes.specs.Nodes.{NodeView, LayerView}
use Rattle.layer_build.specs.Layers.{SpaceView, diagram_of}
use Rattle.layer_build.proofs.Reading.{read-at, read-seen}
use Rattle.layer_build.proofs.Standing.{has-depth, stands-some}
use Rattle.layer_build.proofs.workspace.Workspace.row.Goals as goal

pub layer_at-requires : goal.layer_at-requires
layer_at-requires c =
    let s = stands-some c.self.inside c.self.invariant c.args.self.now c.self.view_is c.args.depth c.args.node c.requires.first c.requires.place in
    has-depth c.self.inside c.self.invariant c.args.depth s.low

pub row-requires : goal.row-requires
row-requires c =
    let s = stands-some c.self.inside c.self.invariant c.args.self.now c.self.view_is c.args.depth c.args.node c.requires.first c.requires.place in
    let from : c.self.inside.held ≤ c.args.depth = (let held = c.requires.held in let same = ap (λ (t : SpaceView). t.held) c.self.view_is in omega arith) in
    record {
      place = subst (λ (l : LayerView). c.args.node < length l.nodes) (sym c.layer_at.ensures) s.within;
      held = subst (λ (l : LayerView). AreHeld c.self.inside.stack.region l.nodes) (sym c.layer_at.ensures) (c.self.invariant.rows.held_rows c.args.depth from s.low);
    }

pub returns : goal.returns
returns c =
    let i = c.self.inside in let h = c.self.invariant in
    let s = stands-some i h c.args.self.now c.self.view_is c.args.depth c.args.node c.requires.first c.requires.place in
    subst (λ (t : SpaceView). option_map (λ (n : DdNode). n.row) (node_at (diagram_of t) c.args.depth c.args.node) ≡ Some c.row.result.now) c.self.view_is
    (read-seen i h c.args.depth c.args.node s.above s.low (λ (n : DdNode). n.row) c.row.result.now (read-at (λ (n : NodeView). n.row) c.args.node c.layer_at.ensures c.row.ensures))
