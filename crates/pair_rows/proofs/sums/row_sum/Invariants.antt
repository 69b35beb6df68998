use Rattle.std.proofs.Common.{◌≡◌, pos, ◌+ℤ◌, ◌≤ℤ◌, drop}
use Rattle.pair_rows.specs.Instance.{pairs_most}
use Rattle.pair_rows.proofs.sums.row_sum.Given as goal

-- the sum so far and the sum of the rest make the whole
abbrev pub invariant-loop-i : goal.invariant-loop-i
invariant-loop-i l = (l.total +ℤ pairs_most (drop l.i l.row) ≡ pairs_most l.row) × (pos 0 ≤ℤ l.total)
