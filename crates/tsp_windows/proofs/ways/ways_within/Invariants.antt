use Rattle.std.proofs.Common.{◌≡◌, ℕ, ◌-◌, ◌<◌, ◌≤◌, ◌||◌, not, true, nat_lt, length, get_or}
use Rattle.node_sets.specs.Sums.{sum_below}
use Rattle.node_sets.specs.Sets.{has}
use Rattle.tsp_windows.proofs.ways.ways_within.Given as goal

abbrev pub invariant-members : goal.invariant-members
invariant-members l =
    (l.rest.row ≡ l.members)
    × (l.rest.from ≤ length l.nearest)
    × ((v : ℕ) → v < l.rest.from → nat_lt l.time (get_or l.too_late v 0) || not (has l.members v) ≡ true)
    × (l.total ≡ sum_below l.rest.from (has l.members) (λ v. get_or l.nearest v 0))

abbrev pub decreases-members : goal.decreases-members
decreases-members l = length l.nearest - l.rest.from
