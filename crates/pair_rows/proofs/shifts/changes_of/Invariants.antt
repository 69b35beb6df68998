use Rattle.std.proofs.Common.{◌≡◌, ◌++◌, drop, map}
use Rattle.pair_rows.specs.Pairs.{rows_of}
use Rattle.pair_rows.specs.Shifts.{change_of}
use Rattle.pair_rows.proofs.shifts.changes_of.Given as goal

-- what is added for the rows so far and for those that are left makes all
abbrev pub invariant-loop-k : goal.invariant-loop-k
invariant-loop-k l = l.changes.items ++ map change_of (drop l.k (rows_of l.variables l.cells)) ≡ map change_of (rows_of l.variables l.cells)
