use Rattle.std.proofs.Common.{◌≡◌, pos, ◌+ℤ◌, ◌≤ℤ◌, drop, length}
use Rattle.pair_rows.specs.Pairs.{rows_of}
use Rattle.max_two_sat.specs.OwnWords.{rows_value}
use Rattle.max_two_sat.proofs.value.value_of_pairs.Given as goal

-- the sum so far and the sum of the rest make the whole
abbrev pub invariant-loop-k : goal.invariant-loop-k
invariant-loop-k l =
    (l.total +ℤ rows_value (drop l.k (rows_of (length l.values) l.pairs)) (drop l.k l.values) ≡ rows_value (rows_of (length l.values) l.pairs) l.values) × (pos 0 ≤ℤ l.total)
