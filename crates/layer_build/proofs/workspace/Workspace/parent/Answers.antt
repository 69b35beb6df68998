use Rattle.std.proofs.Common.{◌≡◌, ◌+◌, ◌-◌, ◌<◌, true, ℕ, length, take, slice_get, Option, Some, option_map, sym, ap, ◌∙◌, subst, arith}
use Rattle.std.proofs.lemmas.Option.{slice_get-get_or}
use Rattle.dp_laws.specs.Diagrams.Nodes.{DdNode, node_at}
use Rattle.layer_nodes.specs.Nodes.{NodeView}
use Rattle.layer_build.specs.Layers.{SpaceView, diagram_of}
use Rattle.layer_build.specs.Stacked.{nodes_in}
use Rattle.layer_build.proofs.Parents.{has-parent, front-seen}
use Rattle.layer_build.proofs.Standing.{StandsAt, has-depth, stands-so}
use Rattle.layer_build.proofs.Walked.{no_node, some-is}
use Rattle.layer_build.proofs.workspace.Workspace.parent.Goals as goal

pub parent_or_first-requires : goal.parent_or_first-requires
parent_or_first-requires c =
    let s : StandsAt c.self.inside c.args.depth c.args.node = stands-so (λ (n : DdNode). n.exact) true c.self.inside c.self.invariant c.args.self.now c.self.view_is c.args.depth c.args.node (let r = c.requires.first in omega arith) c.requires.exact in
    record { depth = has-depth c.self.inside c.self.invariant c.args.depth s.low; place = s.within }

pub returns : goal.returns
returns c =
    let i = c.self.inside in let h = c.self.invariant in
    let s : StandsAt i c.args.depth c.args.node = stands-so (λ (n : DdNode). n.exact) true i h c.args.self.now c.self.view_is c.args.depth c.args.node (let r = c.requires.first in omega arith) c.requires.exact in
    let exact = some-is _ true (ap (option_map (λ (n : DdNode). n.exact)) (sym s.is) ∙ (ap (λ (t : SpaceView). option_map (λ (n : DdNode). n.exact) (node_at (diagram_of t) c.args.depth c.args.node)) c.self.view_is ∙ c.requires.exact)) in
    let above : i.stack.first + 1 < c.args.depth = (let begun = h.first in let same = ap (λ (t : SpaceView). length t.prefix) c.self.view_is in let r = c.requires.first in omega arith) in
    let p = has-parent i h c.args.depth c.args.node (omega arith) s.low s.within exact in
    let nodes = nodes_in i.stack c.args.depth in
    let there : option_map (λ (n : NodeView). n.parent) (slice_get nodes c.args.node) ≡ Some (Some p.place) = ap (option_map (λ (n : NodeView). n.parent)) (slice_get-get_or nodes c.args.node no_node s.within) ∙ ap (λ (o : Option ℕ). Some o) p.is in
    let place = c.parent_or_first.ensures p.place there in
    subst (λ (t : SpaceView). option_map (λ (n : DdNode). n.path) (node_at (diagram_of t) (c.args.depth - 1) c.parent_or_first.result) ≡ option_map (λ (n : DdNode). take (c.args.depth - 1) n.path) (node_at (diagram_of c.args.self.now) c.args.depth c.args.node)) c.self.view_is
    (front-seen i h c.args.depth c.args.node c.parent_or_first.result (node_at (diagram_of c.args.self.now) c.args.depth c.args.node) p
    (ap (λ (t : SpaceView). node_at (diagram_of t) c.args.depth c.args.node) (sym c.self.view_is) ∙ s.is) place above s.low)
