use Rattle.std.proofs.Common.{◌≡◌, drop}
use Rattle.pair_rows.specs.Program.{are_within}
use Rattle.pair_rows.proofs.limits.are_within.Given as goal

-- the rest decides
abbrev pub invariant-loop-i : goal.invariant-loop-i
invariant-loop-i l = are_within (drop l.i l.benefits) (drop l.i l.limits) ≡ are_within l.benefits l.limits
