use Rattle.std.proofs.Common.{◌≡◌, ◌++◌, drop, map}
use Rattle.pair_rows.specs.Pairs.{rows_of}
use Rattle.pair_rows.specs.Shifts.{stakes_of}
use Rattle.pair_rows.proofs.shifts.stakes_of.Given as goal

-- the stakes so far and those of the rows that are left make all stakes
abbrev pub invariant-loop-k : goal.invariant-loop-k
invariant-loop-k l = l.stakes.items ++ map (stakes_of l.d) (drop l.k (rows_of l.variables l.pairs)) ≡ map (stakes_of l.d) (rows_of l.variables l.pairs)
