use Rattle.std.proofs.Common.{◌≡◌, ◌++◌, drop, map}
use Rattle.max_two_sat.proofs.listing.values_of.Given as goal

-- the values so far and those of the entries that are left make all values
abbrev pub invariant-loop-i : goal.invariant-loop-i
invariant-loop-i g l = l.values.items ++ map g.W.ClauseWeights.given (drop l.i l.entries) ≡ map g.W.ClauseWeights.given l.entries
