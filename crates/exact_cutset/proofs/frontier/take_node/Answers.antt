use Rattle.std.proofs.Common.{subst}
use Rattle.dp_laws.specs.Diagrams.Nodes.{node_at}
use Rattle.relaxed_dd.specs.Shown.{layers_of}
use Rattle.exact_cutset.specs.Walking.{IsFreeNode}
use Rattle.exact_cutset.proofs.Looked.{ready-here}
use Rattle.exact_cutset.proofs.frontier.take_node.Goals as goal

pub take_border-requires-clause-leads : goal.take_border-requires-clause-leads
take_border-requires-clause-leads g c κs within =
    let dp = g.M.DpModel.meaning (g.M.DpModel.numbers c.args.model.now) in
    let d = layers_of c.args.diagram.now in
    (ready-here dp d c.args.out.now.wide c.args.out.now.room c.args.depth c.args.node c.args.above.now c.requires.walk c.requires.first c.requires.last c.requires.node
    (subst (IsFreeNode d c.args.depth c.args.above.now (node_at d c.args.depth c.args.node)) c.if-is_free.true c.is_free.ensures)).1
