use Rattle.std.proofs.Common.{◌≡◌, pos, ◌+ℤ◌, ◌≤ℤ◌, drop}
use Rattle.benefit_rows.specs.Benefits.{differences, rank_of}
use Rattle.benefit_rows.proofs.row.wide_distance.Given as goal

-- the sizes so far and those of the other differences make the sum
abbrev pub invariant-loop-i : goal.invariant-loop-i
invariant-loop-i l =
    (l.total +ℤ rank_of (drop l.i (differences l.from l.to)) ≡ rank_of (differences l.from l.to)) × (pos 0 ≤ℤ l.total)
