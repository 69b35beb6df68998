-- What every instance keeps to.
use Rattle.std.specs.Prelude.{◌≡◌, ◌^◌, ◌≤◌, pos, ◌+ℤ◌, ◌≤ℤ◌, Bool, ◌&&◌, int_le, List, length, IsTrue}
use Rattle.std.specs.List.{list_all}
use Rattle.max_two_sat.specs.declared.weights.UnitWeights.{UnitWeights}
use Rattle.max_two_sat.specs.declared.weights.PairWeights.{PairWeights}
use Rattle.max_two_sat.specs.Instance.{Instance, units_total, pairs_total}
use Rattle.pair_rows.specs.Pairs.{pair_count}
use Rattle.max_two_sat.specs.Lines.{line_count, weighs}

-- no weight of the entry is negative
abbrev pub unit_is_positive : UnitWeights → Bool
unit_is_positive u = int_le (pos 0) u.positive && int_le (pos 0) u.negative

abbrev pub pair_is_positive : PairWeights → Bool
pair_is_positive p = (int_le (pos 0) p.both && int_le (pos 0) p.first) && (int_le (pos 0) p.second && int_le (pos 0) p.neither)

abbrev pub units_are_positive : List UnitWeights → Bool
units_are_positive us = list_all unit_is_positive us

abbrev pub pairs_are_positive : List PairWeights → Bool
pairs_are_positive ps = list_all pair_is_positive ps

-- at most 1024 variables, an entry for each two, no negative weight, a total weight of at most 2^48, at most 2^20 weights above zero, and tautologies only where there is a variable
pub record IsWithinLimits (i : Instance) : Type 0 where
  pub variables : length i.units ≤ 1024
  pub whole : length i.pairs ≡ pair_count (length i.units)
  pub tautologies : pos 0 ≤ℤ i.tautologies
  pub units : IsTrue (units_are_positive i.units)
  pub pairs : IsTrue (pairs_are_positive i.pairs)
  pub total : (i.tautologies +ℤ (units_total i.units +ℤ pairs_total i.pairs)) ≤ℤ pos (2 ^ 48)
  pub lines : line_count i ≤ 2 ^ 20
  pub some : weighs i.tautologies ≤ length i.units

-- what the tests say

pub record UnitIsPositive (u : UnitWeights) : Type 0 where
  pub positive : pos 0 ≤ℤ u.positive
  pub negative : pos 0 ≤ℤ u.negative

pub record PairIsPositive (p : PairWeights) : Type 0 where
  pub both : pos 0 ≤ℤ p.both
  pub first : pos 0 ≤ℤ p.first
  pub second : pos 0 ≤ℤ p.second
  pub neither : pos 0 ≤ℤ p.neither
