use Rattle.std.proofs.Common.{◌≡◌, ◌+◌, ◌-◌, ◌*◌, ◌≤◌, ◌&&◌, not, nat_eq, get_or}
use Rattle.node_sets.specs.Sums.{least_amount}
use Rattle.node_sets.specs.Sets.{has}
use Rattle.tsp_windows.proofs.ways.least_of_legs.Given as goal

abbrev pub invariant-positions : goal.invariant-positions
invariant-positions l =
    (l.rest.row ≡ l.positions) × (l.rest.from ≤ l.nodes) × (l.least ≡ least_amount l.rest.from (λ p. has l.positions p && not (nat_eq p l.to)) (λ p. get_or l.distances (p * l.nodes + l.to) 0))

abbrev pub decreases-positions : goal.decreases-positions
decreases-positions l = l.nodes - l.rest.from
