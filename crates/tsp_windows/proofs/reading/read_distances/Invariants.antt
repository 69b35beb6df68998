use Rattle.std.proofs.Common.{◌≡◌, ◌-◌}
use Rattle.tokens.specs.Grammar.{times}
use Rattle.tsp_windows.specs.Texts.{distance_at}
use Rattle.tsp_windows.proofs.reading.read_distances.Given as goal

abbrev pub invariant-distances : goal.invariant-distances
invariant-distances l =
    times (distance_at l.nodes) (l.count - l.counter) l.distances.items l.tokens
    ≡ times (distance_at l.nodes) l.count l.initial.distances.items l.initial.tokens
