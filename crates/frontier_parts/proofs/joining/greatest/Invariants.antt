use Rattle.std.proofs.Common.{◌≡◌, length}
use Rattle.frontier_parts.specs.Settled.{joined}
use Rattle.frontier_parts.proofs.joining.greatest.Given as goal

abbrev pub invariant-loop-rest : goal.invariant-loop-rest
invariant-loop-rest l = joined l.best l.rest ≡ joined l.fn.incumbent l.settled

abbrev pub decreases-loop-rest : goal.decreases-loop-rest
decreases-loop-rest l = length l.rest
