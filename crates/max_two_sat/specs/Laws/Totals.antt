-- What all clauses weigh.
use Rattle.std.specs.Prelude.{◌^◌, pos, ◌+ℤ◌, ◌≤ℤ◌, List, IsTrue}
use Rattle.std.proofs.Common.{arith}
use Rattle.std.proofs.lemmas.Int.{ints}
use Rattle.pair_rows.specs.Laws.Pairs.{total_by-positive}
use Rattle.max_two_sat.specs.declared.weights.UnitWeights.{UnitWeights}
use Rattle.max_two_sat.specs.declared.weights.PairWeights.{PairWeights}
use Rattle.max_two_sat.specs.Instance.{Instance, unit_total, pair_total, units_total, pairs_total}
use Rattle.max_two_sat.specs.Limits.{IsWithinLimits, units_are_positive, pairs_are_positive, pair_is_positive, unit_is_positive}
use Rattle.max_two_sat.specs.Laws.Limits.{unit-positive, pair-positive}

pub unit_total-low : (u : UnitWeights) → IsTrue (unit_is_positive u) → pos 0 ≤ℤ unit_total u
unit_total-low u h = let here = unit-positive u h in omega (arith, ints)

pub units_total-positive : (us : List UnitWeights) → IsTrue (units_are_positive us) → pos 0 ≤ℤ units_total us
units_total-positive us h = total_by-positive unit_total unit_is_positive unit_total-low us h

pub pair_total-low : (p : PairWeights) → IsTrue (pair_is_positive p) → pos 0 ≤ℤ pair_total p
pair_total-low p h = let here = pair-positive p h in omega (arith, ints)

pub pairs_total-positive : (ps : List PairWeights) → IsTrue (pairs_are_positive ps) → pos 0 ≤ℤ pairs_total ps
pairs_total-positive ps h = total_by-positive pair_total pair_is_positive pair_total-low ps h

-- no part of an instance weighs more than 2^48
pub record PartsAreSmall (i : Instance) : Type 0 where
  pub tautologies : i.tautologies ≤ℤ pos (2 ^ 48)
  pub units : units_total i.units ≤ℤ pos (2 ^ 48)
  pub pairs : pairs_total i.pairs ≤ℤ pos (2 ^ 48)
  pub both : (units_total i.units +ℤ pairs_total i.pairs) ≤ℤ pos (2 ^ 48)

pub parts-small : (i : Instance) → IsWithinLimits i → PartsAreSmall i
parts-small i kept =
    let units = units_total-positive i.units kept.units in
    let pairs = pairs_total-positive i.pairs kept.pairs in
    record {
      tautologies = omega (arith, ints, kept.total);
      units = omega (arith, ints, kept.total, kept.tautologies);
      pairs = omega (arith, ints, kept.total, kept.tautologies);
      both = omega (arith, ints, kept.total, kept.tautologies);
    }
