use Rattle.std.proofs.Common.{◌≡◌, pos, ◌+ℤ◌, ◌≤ℤ◌, drop}
use Rattle.max_two_sat.specs.OwnWords.{row_value}
use Rattle.max_two_sat.proofs.value.value_of_row.Given as goal

-- the sum so far and the sum of the rest make the whole
abbrev pub invariant-loop-i : goal.invariant-loop-i
invariant-loop-i l = (l.total +ℤ row_value (drop l.i l.row) l.value (drop l.i l.later) ≡ row_value l.row l.value l.later) × (pos 0 ≤ℤ l.total)
