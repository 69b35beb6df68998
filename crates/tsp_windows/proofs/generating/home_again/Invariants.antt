use Rattle.std.proofs.Common.{◌≡◌, ◌-◌, ◌*◌, ◌≤◌}
use Rattle.tsp_windows.specs.Generating.{reached_along}
use Rattle.tsp_windows.proofs.generating.home_again.Given as goal

abbrev pub invariant-nodes : goal.invariant-nodes
invariant-nodes l = (l.time ≡ reached_along l.nodes l.distances (l.node - 1)) × (l.time ≤ 50 * l.node)
