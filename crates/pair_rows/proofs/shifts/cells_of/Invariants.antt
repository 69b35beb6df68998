use Rattle.std.proofs.Common.{◌≡◌, ◌++◌, drop}
use Rattle.pair_rows.specs.Shifts.{shifts_of}
use Rattle.pair_rows.proofs.shifts.cells_of.Given as goal

-- the shifts so far and those of the pairs that are left make all shifts
abbrev pub invariant-loop-i : goal.invariant-loop-i
invariant-loop-i l = l.cells.items ++ shifts_of l.d (drop l.i l.pairs) ≡ shifts_of l.d l.pairs
