use Rattle.std.proofs.Common.{◌≡◌, length}
use Rattle.cover_join.specs.Joined.{have_arcs}
use Rattle.cover_join.specs.Joining.{answers_in}
use Rattle.cover_join.proofs.finding.have_arcs.Given as goal

abbrev pub invariant-loop-rest : goal.invariant-loop-rest
invariant-loop-rest g l =
    let dp = g.M.DpModel.meaning (g.M.DpModel.numbers l.model) in
    have_arcs dp (answers_in l.rest) ≡ have_arcs dp (answers_in l.texts)

abbrev pub decreases-loop-rest : goal.decreases-loop-rest
decreases-loop-rest g l = length l.rest
