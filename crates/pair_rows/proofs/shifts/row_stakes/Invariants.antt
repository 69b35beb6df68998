use Rattle.std.proofs.Common.{◌≡◌, pos, ◌+ℤ◌, ◌≤ℤ◌, drop}
use Rattle.pair_rows.specs.Shifts.{stakes_of}
use Rattle.pair_rows.proofs.shifts.row_stakes.Given as goal

-- the sum so far and the sum of the rest make the whole
abbrev pub invariant-loop-i : goal.invariant-loop-i
invariant-loop-i l = (l.total +ℤ stakes_of l.d (drop l.i l.row) ≡ stakes_of l.d l.row) × (pos 0 ≤ℤ l.total)
