use Rattle.std.proofs.Common.{◌≡◌, length}
use Rattle.cover_join.specs.Joined.{target_for}
use Rattle.cover_join.proofs.arcs.target_for.Given as goal

abbrev pub invariant-loop-rest : goal.invariant-loop-rest
invariant-loop-rest l = target_for l.decision l.rest ≡ target_for l.decision l.arcs

abbrev pub decreases-loop-rest : goal.decreases-loop-rest
decreases-loop-rest l = length l.rest
