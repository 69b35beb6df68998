use Rattle.std.proofs.Common.{◌≡◌, ◌++◌, drop}
use Rattle.tsp_windows.specs.Texts.{printed_distances}
use Rattle.tsp_windows.proofs.printing.push_distances.Given as goal

abbrev pub invariant-distances : goal.invariant-distances
invariant-distances l =
    l.out.items ++ printed_distances l.nodes l.place (drop l.place l.distances) ≡ l.initial.out.items ++ printed_distances l.nodes 0 l.distances
