use Rattle.std.proofs.Common.{◌≡◌, pos, ◌+ℤ◌, ◌≤ℤ◌, drop}
use Rattle.benefit_rows.specs.Benefits.{gap_of}
use Rattle.benefit_rows.proofs.row.gap.Given as goal

-- twice the gap so far and twice the gap of the rest make twice the gap
abbrev pub invariant-loop-i : goal.invariant-loop-i
invariant-loop-i l =
    (l.doubled +ℤ (gap_of (drop l.i l.from) (drop l.i l.to) +ℤ gap_of (drop l.i l.from) (drop l.i l.to)) ≡ gap_of l.from l.to +ℤ gap_of l.from l.to)
    × (pos 0 ≤ℤ l.doubled)
