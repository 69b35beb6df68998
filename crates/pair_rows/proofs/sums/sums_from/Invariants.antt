use Rattle.std.proofs.Common.{◌≡◌, ◌++◌, drop}
use Rattle.pair_rows.specs.Pairs.{rows_of}
use Rattle.pair_rows.specs.Instance.{rows_most}
use Rattle.pair_rows.specs.Table.{later_totals}
use Rattle.pair_rows.proofs.sums.sums_from.Given as goal

-- the sums so far and those of the rows that are left make all sums
abbrev pub invariant-loop-k : goal.invariant-loop-k
invariant-loop-k l =
    (l.sums.items ++ later_totals (drop l.k (rows_of l.variables l.pairs)) ≡ later_totals (rows_of l.variables l.pairs)) ×
    (l.left ≡ rows_most (drop l.k (rows_of l.variables l.pairs)))
