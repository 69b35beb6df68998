use Rattle.std.proofs.Common.{◌≡◌, ◌%◌, length}
use Rattle.cover_join.specs.Joined.{joined_target}
use Rattle.cover_join.specs.Joining.{answers_in}
use Rattle.cover_join.proofs.arcs.joined_target.Given as goal

abbrev pub invariant-loop-rest : goal.invariant-loop-rest
invariant-loop-rest g l =
    let dp = g.M.DpModel.meaning (g.M.DpModel.numbers l.model) in
    joined_target dp l.decision l.left l.before (answers_in l.rest) ≡ joined_target dp l.decision (l.decision % l.of) 0 (answers_in l.texts)

abbrev pub decreases-loop-rest : goal.decreases-loop-rest
decreases-loop-rest g l = length l.rest
