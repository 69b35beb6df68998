use Rattle.std.proofs.Common.{length, ◌≡◌}
use Rattle.tsp_windows.specs.OwnWords.{ends_at_home}
use Rattle.tsp_windows.proofs.value.ends_at_home.Given as goal

abbrev pub invariant-visits : goal.invariant-visits
invariant-visits l = ends_at_home l.rest ≡ ends_at_home l.visits

abbrev pub decreases-visits : goal.decreases-visits
decreases-visits l = length l.rest
