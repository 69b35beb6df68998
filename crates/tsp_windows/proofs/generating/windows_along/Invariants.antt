use Rattle.tsp_windows.proofs.Windows.{AreAlong}
use Rattle.tsp_windows.proofs.generating.windows_along.Given as goal

-- this many windows stand so far
abbrev pub invariant-nodes : goal.invariant-nodes
invariant-nodes l = AreAlong l.nodes l.node l.time l.distances l.windows.items
