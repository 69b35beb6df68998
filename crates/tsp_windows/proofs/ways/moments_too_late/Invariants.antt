use Rattle.std.proofs.Common.{◌≡◌, ℕ, ◌+◌, ◌-◌, ◌<◌, length, get_or}
use Rattle.tsp_windows.specs.Instance.{no_window}
use Rattle.tsp_windows.proofs.ways.moments_too_late.Given as goal

abbrev pub invariant-nodes : goal.invariant-nodes
invariant-nodes l =
    (length l.moments.items ≡ l.to) × ((v : ℕ) → v < l.to → get_or l.moments.items v 0 ≡ ((get_or l.windows v no_window).closing + 1) - get_or l.nearest v 0)
