use Rattle.std.proofs.Common.{◌≡◌, ◌+◌, take}
use Rattle.pair_rows.specs.Program.{limits_at}
use Rattle.pair_rows.proofs.limits.limits_after.Given as goal

-- the limits of the variables so far
abbrev pub invariant-loop-i : goal.invariant-loop-i
invariant-loop-i l = l.cells.items ≡ take l.i (limits_at l.units l.pairs (l.k + 1))
