use Rattle.std.proofs.Common.{◌≡◌, ℕ, ◌<◌, length, get_or}
use Rattle.tsp_windows.specs.Instance.{least_way}
use Rattle.tsp_windows.proofs.ways.least_ways.Given as goal

abbrev pub invariant-nodes : goal.invariant-nodes
invariant-nodes l =
    (length l.ways.items ≡ l.to) × ((v : ℕ) → v < l.to → get_or l.ways.items v 0 ≡ least_way l.nodes l.distances v)
