-- What the tests of the limits say.
use Rattle.std.specs.Prelude.{ℤ, pos, neg_ℤ, ◌≤ℤ◌, ◌&&◌, int_le, IsTrue}
use Rattle.std.proofs.Common.{arith}
use Rattle.std.proofs.lemmas.Int.{ints, clamps}
use Rattle.std.proofs.lemmas.Bool.{and_parts, and_from}
use Rattle.benefit_rows.specs.Benefits.{size_of}
use Rattle.dp_model.specs.NumberLaws.{int_le-is, int_le-from}
use Rattle.pair_rows.specs.declared.values.UnitValues.{UnitValues}
use Rattle.pair_rows.specs.declared.values.PairValues.{PairValues}
use Rattle.pair_rows.specs.Program.{is_within}
use Rattle.pair_rows.specs.Limits.{is_up_to, unit_fits, pair_fits, UnitFits, PairFits}

pub size-is : (t limit : ℤ) → IsTrue (is_within t limit) → size_of t ≤ℤ limit
size-is t limit h =
    omega (arith, ints, clamps, int_le-is (neg_ℤ limit) t (and_parts _ _ h).0, int_le-is t limit (and_parts (int_le (neg_ℤ limit) t) _ h).1)

pub is-size : (t limit : ℤ) → size_of t ≤ℤ limit → IsTrue (is_within t limit)
is-size t limit h =
    and_from (int_le (neg_ℤ limit) t) _ (int_le-from (neg_ℤ limit) t (omega (arith, ints, clamps))) (int_le-from t limit (omega (arith, ints, clamps)))

-- a number in range
up_to-low : (most z : ℤ) → IsTrue (is_up_to most z) → pos 0 ≤ℤ z
up_to-low most z h = int_le-is (pos 0) z (and_parts _ _ h).0

up_to-high : (most z : ℤ) → IsTrue (is_up_to most z) → z ≤ℤ most
up_to-high most z h = int_le-is z most (and_parts (int_le (pos 0) z) _ h).1

pub is-up_to : (most z : ℤ) → pos 0 ≤ℤ z → z ≤ℤ most → IsTrue (is_up_to most z)
is-up_to most z low high = and_from (int_le (pos 0) z) _ (int_le-from (pos 0) z low) (int_le-from z most high)

pub unit-fits : (u : UnitValues) → IsTrue (unit_fits u) → UnitFits u
unit-fits u h =
    let no_test : IsTrue (is_up_to u.most u.if_no) = (and_parts _ _ h).0 in
    let yes_test : IsTrue (is_up_to u.most u.if_yes) = (and_parts (is_up_to u.most u.if_no) _ h).1 in
    record {
      if_no = up_to-low u.most u.if_no no_test;
      if_yes = up_to-low u.most u.if_yes yes_test;
      no_most = up_to-high u.most u.if_no no_test;
      yes_most = up_to-high u.most u.if_yes yes_test;
    }

pub pair-fits : (p : PairValues) → IsTrue (pair_fits p) → PairFits p
pair-fits p h =
    let front : IsTrue (is_up_to p.most p.no_no && is_up_to p.most p.no_yes) = (and_parts _ _ h).0 in
    let back : IsTrue (is_up_to p.most p.yes_no && is_up_to p.most p.yes_yes) = (and_parts (is_up_to p.most p.no_no && is_up_to p.most p.no_yes) _ h).1 in
    let one : IsTrue (is_up_to p.most p.no_no) = (and_parts _ _ front).0 in
    let two : IsTrue (is_up_to p.most p.no_yes) = (and_parts (is_up_to p.most p.no_no) _ front).1 in
    let three : IsTrue (is_up_to p.most p.yes_no) = (and_parts _ _ back).0 in
    let four : IsTrue (is_up_to p.most p.yes_yes) = (and_parts (is_up_to p.most p.yes_no) _ back).1 in
    record {
      no_no = up_to-low p.most p.no_no one;
      no_yes = up_to-low p.most p.no_yes two;
      yes_no = up_to-low p.most p.yes_no three;
      yes_yes = up_to-low p.most p.yes_yes four;
      no_no_most = up_to-high p.most p.no_no one;
      no_yes_most = up_to-high p.most p.no_yes two;
      yes_no_most = up_to-high p.most p.yes_no three;
      yes_yes_most = up_to-high p.most p.yes_yes four;
    }
