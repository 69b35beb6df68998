use Rattle.std.proofs.Common.{◌≡◌, ◌+◌, length}
use Rattle.frontier_parts.specs.Settled.{place_from}
use Rattle.frontier_parts.proofs.joining.place_of.Given as goal

abbrev pub invariant-loop-rest : goal.invariant-loop-rest
invariant-loop-rest l = record {
  place : place_from l.value l.place l.rest ≡ place_from l.value 0 l.settled;
  within : l.place + length l.rest ≡ length l.settled;
}

abbrev pub decreases-loop-rest : goal.decreases-loop-rest
decreases-loop-rest l = length l.rest
