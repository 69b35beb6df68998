use Rattle.std.proofs.Common.{◌≡◌, Some, option_map, subst, ◌<◌, length, sym}
use Rattle.dp_laws.specs.Diagrams.Nodes.{DdNode, node_at}
use Rattle.layer_nodes.specs.Nodes.{NodeView, LayerView}
use Rattle.layer_build.specs.Layers.{SpaceView, diagram_of}
use Rattle.layer_build.proofs.Reading.{read-at, read-seen}
use Rattle.layer_build.proofs.Standing.{has-depth, stands-some}
use Rattle.layer_build.proofs.workspace.Workspace.exact.Goals as goal

pub layer_at-requires : goal.layer_at-requires
layer_at-requires c =
    let s = stands-some c.self.inside c.self.invariant c.args.self.now c.self.view_is c.args.depth c.args.node c.requires.first c.requires.place in
    has-depth c.self.inside c.self.invariant c.args.depth s.low

pub exact-requires : goal.exact-requires
exact-requires c =
    let s = stands-some c.self.inside c.self.invariant c.args.self.now c.self.view_is c.args.depth c.args.node c.requires.first c.requires.place in
    subst (λ (l : LayerView). c.args.node < length l.nodes) (sym c.layer_at.ensures) s.within

pub returns : goal.returns
returns c =
    let i = c.self.inside in let h = c.self.invariant in
    let s = stands-some i h c.args.self.now c.self.view_is c.args.depth c.args.node c.requires.first c.requires.place in
    subst (λ (t : SpaceView). option_map (λ (n : DdNode). n.exact) (node_at (diagram_of t) c.args.depth c.args.node) ≡ Some c.exact.result) c.self.view_is
    (read-seen i h c.args.depth c.args.node s.above s.low (λ (n : DdNode). n.exact) c.exact.result (read-at (λ (n : NodeView). n.exact) c.args.node c.layer_at.ensures c.exact.ensures))
