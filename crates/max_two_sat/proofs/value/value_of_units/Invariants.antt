use Rattle.std.proofs.Common.{◌≡◌, pos, ◌+ℤ◌, ◌≤ℤ◌, drop}
use Rattle.max_two_sat.specs.OwnWords.{units_value}
use Rattle.max_two_sat.proofs.value.value_of_units.Given as goal

-- the sum so far and the sum of the rest make the whole
abbrev pub invariant-loop-i : goal.invariant-loop-i
invariant-loop-i l = (l.total +ℤ units_value (drop l.i l.units) (drop l.i l.values) ≡ units_value l.units l.values) × (pos 0 ≤ℤ l.total)
