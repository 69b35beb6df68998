use Rattle.std.proofs.Common.{◌≡◌, ◌++◌, drop, map}
use Rattle.max_cut.specs.Program.{pair_values}
use Rattle.max_cut.proofs.listing.values_of_pairs.Given as goal

-- the values so far and those of the weights that are left make all values
abbrev pub invariant-loop-i : goal.invariant-loop-i
invariant-loop-i l = l.values.items ++ map pair_values (drop l.i l.weights) ≡ map pair_values l.weights
