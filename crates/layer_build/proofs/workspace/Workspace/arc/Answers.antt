use Rattle.std.proofs.Common.{◌≡◌, slice_get, Option, Some, IsSome, option_and_then, sym, ap, ◌∙◌, subst}
use Rattle.dp_laws.specs.declared.arc.DdArc.{DdArc}
use Rattle.dp_laws.specs.Diagrams.Nodes.{DdNode, node_at}
use Rattle.layer_nodes.specs.Nodes.{NodeView, LayerView}
use Rattle.layer_build.specs.Layers.{SpaceView, diagram_of}
use Rattle.layer_build.proofs.Reading.{then-seen, arc-place}
use Rattle.layer_build.proofs.Standing.{has-depth, stands-some}
use Rattle.layer_build.proofs.workspace.Workspace.arc.Goals as goal

pub layer_at-requires : goal.layer_at-requires
layer_at-requires c =
    let i = c.self.inside in let h = c.self.invariant in
    let f : DdNode → Option DdArc = λ n. slice_get n.arcs c.args.i in
    let s = stands-some i h c.args.self.now c.self.view_is c.args.depth c.args.node c.requires.first (arc-place c.args.self.now c.args.depth c.args.node f c.requires.place) in
    has-depth i h c.args.depth s.low

pub arc-requires : goal.arc-requires
arc-requires c =
    let i = c.self.inside in let h = c.self.invariant in
    let f : DdNode → Option DdArc = λ n. slice_get n.arcs c.args.i in
    let s = stands-some i h c.args.self.now c.self.view_is c.args.depth c.args.node c.requires.first (arc-place c.args.self.now c.args.depth c.args.node f c.requires.place) in
    let there = subst (λ (t : SpaceView). IsSome (option_and_then f (node_at (diagram_of t) c.args.depth c.args.node))) (sym c.self.view_is) c.requires.place in
    subst (λ (l : LayerView). IsSome (option_and_then (λ (n : NodeView). slice_get n.arcs c.args.i) (slice_get l.nodes c.args.node))) (sym c.layer_at.ensures)
    (subst (λ (o : Option DdArc). IsSome o) (then-seen i h c.args.depth c.args.node s.above s.low f) there)

pub returns : goal.returns
returns c =
    let i = c.self.inside in let h = c.self.invariant in
    let f : DdNode → Option DdArc = λ n. slice_get n.arcs c.args.i in
    let s = stands-some i h c.args.self.now c.self.view_is c.args.depth c.args.node c.requires.first (arc-place c.args.self.now c.args.depth c.args.node f c.requires.place) in
    subst (λ (t : SpaceView). option_and_then f (node_at (diagram_of t) c.args.depth c.args.node) ≡ Some c.arc.result) c.self.view_is
    (then-seen i h c.args.depth c.args.node s.above s.low f ∙ (ap (λ (l : LayerView). option_and_then (λ (n : NodeView). slice_get n.arcs c.args.i) (slice_get l.nodes c.args.node)) (sym c.layer_at.ensures) ∙ c.arc.ensures))
