use Rattle.std.proofs.Common.{◌≡◌, ◌++◌, pos, ◌+ℤ◌, ◌≤ℤ◌, take, drop}
use Rattle.benefit_rows.specs.Benefits.{rank_of, sums_of}
use Rattle.benefit_rows.proofs.row.write_sums.Given as goal

-- the sums so far and those of the rest make the sums, and so do their sizes
abbrev pub invariant-loop-i : goal.invariant-loop-i
invariant-loop-i l =
    (take l.i l.out ++ sums_of (drop l.i l.row) (drop l.i l.added) ≡ sums_of l.row l.added)
    × (l.total +ℤ rank_of (drop l.i (sums_of l.row l.added)) ≡ rank_of (sums_of l.row l.added))
    × (pos 0 ≤ℤ l.total)
