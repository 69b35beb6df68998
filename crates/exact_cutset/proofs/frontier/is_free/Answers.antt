use Rattle.std.proofs.Common.{◌≡◌, true, Some, option_map, ap, ◌∙◌}
use Rattle.dp_laws.specs.Diagrams.Nodes.{DdNode, node_at}
use Rattle.relaxed_dd.specs.Shown.{layers_of}
use Rattle.exact_cutset.proofs.Freeing.{marked-free}
use Rattle.exact_cutset.proofs.frontier.is_free.Goals as goal

pub bounds-above-stem_of : goal.bounds-above-stem_of
bounds-above-stem_of c = c.requires.stem c.stem_of.result (c.exact.ensures ∙ ap Some c.if-exact.true) c.stem_of.ensures

pub returns-then-exact : goal.returns-then-exact
returns-then-exact c =
    let d = layers_of c.args.diagram.now in
    let exact : option_map (λ (n : DdNode). n.exact) (node_at d c.args.depth c.args.node) ≡ Some true = c.exact.ensures ∙ ap Some c.if-exact.true in
    marked-free d c.args.depth c.args.above.now (node_at d c.args.depth c.args.node) c.stem_of.result exact c.stem_of.ensures (c.requires.stem c.stem_of.result exact c.stem_of.ensures)
