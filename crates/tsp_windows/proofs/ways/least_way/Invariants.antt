use Rattle.std.proofs.Common.{◌≡◌, ◌+◌, ◌*◌, not, nat_eq, get_or}
use Rattle.node_sets.specs.Sums.{least_amount}
use Rattle.tsp_windows.proofs.ways.least_way.Given as goal

abbrev pub invariant-others : goal.invariant-others
invariant-others l = l.least ≡ least_amount l.from (λ u. not (nat_eq u l.to)) (λ u. get_or l.distances (u * l.nodes + l.to) 0)
