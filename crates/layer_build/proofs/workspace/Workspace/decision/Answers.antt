use Rattle.std.proofs.Common.{◌<◌, true, length, option_map, sym, ap, ◌∙◌, arith, subst}
use Rattle.dp_laws.specs.Diagrams.Nodes.{DdNode, node_at}
use Rattle.layer_nodes.specs.Nodes.{NodeView, LayerView}
use Rattle.layer_build.specs.Layers.{SpaceView, diagram_of}
use Rattle.layer_build.specs.Stacked.{nodes_in}
use Rattle.layer_build.proofs.Parents.{has-parent, decision-seen}
use Rattle.layer_build.proofs.Reading.{read-at}
use Rattle.layer_build.proofs.Standing.{StandsAt, has-depth, stands-so}
use Rattle.layer_build.proofs.Walked.{read-is, some-is}
use Rattle.layer_build.proofs.workspace.Workspace.decision.Goals as goal

pub layer_at-requires : goal.layer_at-requires
layer_at-requires c =
    let s : StandsAt c.self.inside c.args.depth c.args.node = stands-so (λ (n : DdNode). n.exact) true c.self.inside c.self.invariant c.args.self.now c.self.view_is c.args.depth c.args.node (let r = c.requires.first in omega arith) c.requires.exact in
    has-depth c.self.inside c.self.invariant c.args.depth s.low

pub decision-requires : goal.decision-requires
decision-requires c =
    let s : StandsAt c.self.inside c.args.depth c.args.node = stands-so (λ (n : DdNode). n.exact) true c.self.inside c.self.invariant c.args.self.now c.self.view_is c.args.depth c.args.node (let r = c.requires.first in omega arith) c.requires.exact in
    subst (λ (l : LayerView). c.args.node < length l.nodes) (sym c.layer_at.ensures) s.within

pub returns : goal.returns
returns c =
    let i = c.self.inside in let h = c.self.invariant in
    let s : StandsAt i c.args.depth c.args.node = stands-so (λ (n : DdNode). n.exact) true i h c.args.self.now c.self.view_is c.args.depth c.args.node (let r = c.requires.first in omega arith) c.requires.exact in
    let exact = some-is _ true (ap (option_map (λ (n : DdNode). n.exact)) (sym s.is) ∙ (ap (λ (t : SpaceView). option_map (λ (n : DdNode). n.exact) (node_at (diagram_of t) c.args.depth c.args.node)) c.self.view_is ∙ c.requires.exact)) in
    let above : i.stack.first < c.args.depth = (let begun = h.first in let same = ap (λ (t : SpaceView). length t.prefix) c.self.view_is in let r = c.requires.first in omega arith) in
    let p = has-parent i h c.args.depth c.args.node above s.low s.within exact in
    decision-seen i h c.args.depth c.args.node (node_at (diagram_of c.args.self.now) c.args.depth c.args.node) c.decision.result p
    (ap (λ (t : SpaceView). node_at (diagram_of t) c.args.depth c.args.node) (sym c.self.view_is) ∙ s.is) (read-is (λ (n : NodeView). n.decision) (nodes_in i.stack c.args.depth) c.args.node c.decision.result s.within (read-at (λ (n : NodeView). n.decision) c.args.node c.layer_at.ensures c.decision.ensures))
