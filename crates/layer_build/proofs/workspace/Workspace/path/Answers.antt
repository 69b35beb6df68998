use Rattle.std.proofs.Common.{◌≡◌, true, ℕ, List, length, Some, option_map, sym, ap, ◌∙◌, subst}
use Rattle.dp_laws.specs.Diagrams.Nodes.{DdNode, node_at}
use Rattle.layer_build.specs.Layers.{SpaceView, diagram_of}
use Rattle.layer_build.specs.Stacked.{nodes_in}
use Rattle.layer_build.proofs.Standing.{StandsAt, stands-so, has-all-depths, whole-path}
use Rattle.layer_build.proofs.Walked.{path_of, some-is}
use Rattle.layer_build.proofs.workspace.Workspace.path.Goals as goal

pub write_path-requires-clause-low : goal.write_path-requires-clause-low
write_path-requires-clause-low c = (stands-so (λ (n : DdNode). n.exact) true c.self.inside c.self.invariant c.args.self.now c.self.view_is c.args.depth c.args.node c.requires.first c.requires.exact).low

pub write_path-requires-clause-stored : goal.write_path-requires-clause-stored
write_path-requires-clause-stored c = has-all-depths c.self.inside c.self.invariant

pub write_path-requires-clause-place : goal.write_path-requires-clause-place
write_path-requires-clause-place c = (stands-so (λ (n : DdNode). n.exact) true c.self.inside c.self.invariant c.args.self.now c.self.view_is c.args.depth c.args.node c.requires.first c.requires.exact).within

pub write_path-requires-clause-whole : goal.write_path-requires-clause-whole
write_path-requires-clause-whole c =
    let i = c.self.inside in
    let s : StandsAt i c.args.depth c.args.node = stands-so (λ (n : DdNode). n.exact) true i c.self.invariant c.args.self.now c.self.view_is c.args.depth c.args.node c.requires.first c.requires.exact in
    let exact = some-is _ true (ap (option_map (λ (n : DdNode). n.exact)) (sym s.is) ∙ (ap (λ (t : SpaceView). option_map (λ (n : DdNode). n.exact) (node_at (diagram_of t) c.args.depth c.args.node)) c.self.view_is ∙ c.requires.exact)) in
    subst (λ (p : List ℕ). length (path_of (nodes_in i.stack) p i.stack.first c.args.depth c.args.node) ≡ c.args.depth) (sym c.as_slice.ensures.value)
    (whole-path i c.self.invariant c.args.depth c.args.node s.above s.low s.within exact)

pub returns : goal.returns
returns c =
    let i = c.self.inside in
    let s : StandsAt i c.args.depth c.args.node = stands-so (λ (n : DdNode). n.exact) true i c.self.invariant c.args.self.now c.self.view_is c.args.depth c.args.node c.requires.first c.requires.exact in
    ap (λ (t : SpaceView). option_map (λ (n : DdNode). n.path) (node_at (diagram_of t) c.args.depth c.args.node)) (sym c.self.view_is)
    ∙ (ap (option_map (λ (n : DdNode). n.path)) s.is
    ∙ (ap (λ (p : List ℕ). Some (path_of (nodes_in i.stack) p i.stack.first c.args.depth c.args.node)) (sym c.as_slice.ensures.value)
    ∙ ap (λ (l : List ℕ). Some l) (sym c.write_path.ensures)))
