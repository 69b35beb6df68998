use Rattle.std.proofs.Common.{◌≡◌, ◌+◌, length}
use Rattle.std.specs.Arc.{arc_value}
use Rattle.cover_join.specs.Joining.{answers_in, checks_fault}
use Rattle.cover_join.proofs.checking.checks_fault.Given as goal

abbrev pub invariant-loop-rest : goal.invariant-loop-rest
invariant-loop-rest g l =
    let dp = g.M.DpModel.meaning (g.M.DpModel.numbers (arc_value l.model)) in
    record {
      fault : checks_fault dp l.of l.index (answers_in l.rest) ≡ checks_fault dp l.of 0 (answers_in l.texts);
      count : l.index + length l.rest ≡ l.of;
    }

abbrev pub decreases-loop-rest : goal.decreases-loop-rest
decreases-loop-rest g l = length l.rest
