use Rattle.std.proofs.Common.{◌∙◌, ap, arith}
use Rattle.std.proofs.lemmas.List.{length-map}
use Rattle.dp_laws.specs.Rules.Redirects.{with_redirected}
use Rattle.layer_nodes.specs.Nodes.{shown_layer, shown_below}
use Rattle.layer_nodes.proofs.Inexact.{see, inexact-nodes, inexact-targets}
use Rattle.layer_nodes.proofs.Stored.{among-self}
use Rattle.layer_nodes.proofs.striking.drop_dominated.Goals as goal

pub returns-else-has_exact-clause-next : goal.returns-else-has_exact-clause-next
returns-else-has_exact-clause-next g c = λ paths.
    inexact-nodes (g.M.DpModel.meaning (g.M.DpModel.numbers c.args.model.now)) c.args.k paths c.args.next.now.nodes (c.has_exact.ensures c.if-has_exact.false)

pub returns-else-has_exact-clause-above : goal.returns-else-has_exact-clause-above
returns-else-has_exact-clause-above g c = λ paths below.
    let dp = g.M.DpModel.meaning (g.M.DpModel.numbers c.args.model.now) in
    let a = c.args in
    let nodes = a.next.now.nodes in
    let count = c.len.ensures.count in
    let long = length-map nodes (see dp a.k below) in
    c.keep_layer_targets.ensures.nodes paths (shown_below below nodes) (omega arith)
    ∙ ap (λ l. with_redirected l (shown_layer paths a.above.now.nodes)) (inexact-targets dp a.k below nodes c.len.result count (c.has_exact.ensures c.if-has_exact.false))

pub returns-else-has_exact-clause-stay : goal.returns-else-has_exact-clause-stay
returns-else-has_exact-clause-stay g c = among-self c.args.next.now.nodes
