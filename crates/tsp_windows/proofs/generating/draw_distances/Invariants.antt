use Rattle.tsp_windows.proofs.DrawnDistances.{AreDrawn}
use Rattle.tsp_windows.proofs.generating.draw_distances.Given as goal

-- this many distances are drawn so far
abbrev pub invariant-distances : goal.invariant-distances
invariant-distances l = AreDrawn l.nodes l.seed l.place l.draws l.distances.items
