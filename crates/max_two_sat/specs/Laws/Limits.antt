-- What the tests of the limits say.
use Rattle.std.specs.Prelude.{pos, ◌&&◌, int_le, IsTrue}
use Rattle.std.proofs.lemmas.Bool.{and_parts}
use Rattle.dp_model.specs.NumberLaws.{int_le-is}
use Rattle.max_two_sat.specs.declared.weights.UnitWeights.{UnitWeights}
use Rattle.max_two_sat.specs.declared.weights.PairWeights.{PairWeights}
use Rattle.max_two_sat.specs.Limits.{unit_is_positive, pair_is_positive, UnitIsPositive, PairIsPositive}

pub unit-positive : (u : UnitWeights) → IsTrue (unit_is_positive u) → UnitIsPositive u
unit-positive u h = record {
  positive = int_le-is (pos 0) u.positive (and_parts _ _ h).0;
  negative = int_le-is (pos 0) u.negative (and_parts (int_le (pos 0) u.positive) _ h).1;
}

pub pair-positive : (p : PairWeights) → IsTrue (pair_is_positive p) → PairIsPositive p
pair-positive p h =
    let front : IsTrue (int_le (pos 0) p.both && int_le (pos 0) p.first) = (and_parts _ _ h).0 in
    let back : IsTrue (int_le (pos 0) p.second && int_le (pos 0) p.neither) = (and_parts (int_le (pos 0) p.both && int_le (pos 0) p.first) _ h).1 in
    record {
      both = int_le-is (pos 0) p.both (and_parts _ _ front).0;
      first = int_le-is (pos 0) p.first (and_parts (int_le (pos 0) p.both) _ front).1;
      second = int_le-is (pos 0) p.second (and_parts _ _ back).0;
      neither = int_le-is (pos 0) p.neither (and_parts (int_le (pos 0) p.second) _ back).1;
    }
