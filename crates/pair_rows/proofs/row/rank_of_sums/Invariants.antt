use Rattle.std.proofs.Common.{◌≡◌, pos, ◌+ℤ◌, ◌≤ℤ◌, drop}
use Rattle.benefit_rows.specs.Benefits.{rank_of, sums_of}
use Rattle.pair_rows.proofs.row.rank_of_sums.Given as goal

-- the sizes of the sums so far and those of the rest make the rank
abbrev pub invariant-loop-i : goal.invariant-loop-i
invariant-loop-i l = (l.total +ℤ rank_of (drop l.i (sums_of l.row l.added)) ≡ rank_of (sums_of l.row l.added)) × (pos 0 ≤ℤ l.total)
