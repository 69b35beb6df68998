use Rattle.std.proofs.Common.{◌≡◌, pos, ◌+ℤ◌, ◌≤ℤ◌, drop}
use Rattle.pair_rows.specs.Program.{lesser_units}
use Rattle.pair_rows.proofs.row.lesser_sum.Given as goal

-- the sum so far and the sum of the rest make the whole
abbrev pub invariant-loop-unit : goal.invariant-loop-unit
invariant-loop-unit l = (l.total +ℤ lesser_units (drop l.unit-index l.units) ≡ lesser_units l.units) × (pos 0 ≤ℤ l.total)
