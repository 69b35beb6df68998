use Rattle.std.proofs.Common.{◌≡◌, take}
use Rattle.pair_rows.specs.Program.{first_limits}
use Rattle.pair_rows.proofs.limits.limits_of_units.Given as goal

-- the limits of the variables so far
abbrev pub invariant-loop-i : goal.invariant-loop-i
invariant-loop-i l = l.cells.items ≡ take l.i (first_limits l.units)
