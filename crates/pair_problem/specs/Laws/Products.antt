-- What a weight changes that counts where two variables are 1.
use Rattle.std.proofs.Common.{◌≡◌, ◌≢◌, ℕ, zero, suc, ◌<◌, ℤ, pos, ◌+ℤ◌, List, length, get_or, Bool, true, false, arith, refl, ap, ◌∙◌, sym, subst, cond, eqb, ltb-true}
use Rattle.std.specs.Prelude.{◌&&◌, ◌==◌, nat_lt, IsTrue}
use Rattle.std.specs.Int.{int_min}
use Rattle.std.specs.List.{list_all}
use Rattle.std.proofs.lemmas.Int.{ints, clamps}
use Rattle.std.proofs.lemmas.Bool.{and_from, eqb-true, eq-eqb, ne_eqb}
use Rattle.std.proofs.lemmas.Bool.Decides.{nat_tests}
use Rattle.std.proofs.lemmas.List.{length-set}
use Rattle.benefit_rows.specs.Benefits.{above_zero, below_zero, size_of}
use Rattle.pair_rows.specs.declared.values.UnitValues.{UnitValues}
use Rattle.pair_rows.specs.declared.values.PairValues.{PairValues}
use Rattle.pair_rows.specs.Instance.{Instance, no_unit}
use Rattle.pair_rows.specs.Limits.{IsInstance, UnitFits, PairFits, is_up_to, unit_fits, pair_fits}
use Rattle.pair_rows.specs.Laws.Limits.{is-up_to, unit-fits, pair-fits}
use Rattle.pair_rows.specs.Laws.Pairs.{all-at}
use Rattle.pair_rows.specs.OwnWords.{unit_value, pair_value, value_of_all}
use Rattle.pair_problem.specs.Room.{most_of, HasRoom}
use Rattle.pair_problem.specs.Adding.{with_constant, with_unit, with_pair, unit_sum, unit_weight, pair_weight, with_product, product_value}
use Rattle.pair_problem.specs.Laws.Kept.{constant-kept, most_of-with_unit, unit-kept, value_of-with_unit, most_of-with_pair, pair-kept, value_of-with_pair}

-- what a weight gives is in range

unit-in_range : (w : ℤ) → IsTrue (unit_fits (unit_weight w))
unit-in_range w =
    let m : ℤ = size_of w in
    and_from (is_up_to m (below_zero w)) _ (is-up_to m (below_zero w) (omega (arith, ints, clamps)) (omega (arith, ints, clamps)))
    (is-up_to m (above_zero w) (omega (arith, ints, clamps)) (omega (arith, ints, clamps)))

pair-in_range : (w : ℤ) → IsTrue (pair_fits (pair_weight w))
pair-in_range w =
    let m : ℤ = size_of w in
    let below : IsTrue (is_up_to m (below_zero w)) = is-up_to m (below_zero w) (omega (arith, ints, clamps)) (omega (arith, ints, clamps)) in
    let above : IsTrue (is_up_to m (above_zero w)) = is-up_to m (above_zero w) (omega (arith, ints, clamps)) (omega (arith, ints, clamps)) in
    and_from _ _ (and_from (is_up_to m (below_zero w)) _ below below) (and_from (is_up_to m (below_zero w)) _ below above)

pub unit_weight-fits : (w : ℤ) (u : UnitValues) → u ≡ unit_weight w → UnitFits u
unit_weight-fits w u is = subst (λ (v : UnitValues). UnitFits v) (sym is) (unit-fits (unit_weight w) (unit-in_range w))

pub pair_weight-fits : (w : ℤ) (p : PairValues) → p ≡ pair_weight w → PairFits p
pair_weight-fits w p is = subst (λ (q : PairValues). PairFits q) (sym is) (pair-fits (pair_weight w) (pair-in_range w))

-- the constant with the weight where that is negative
abbrev pub heavier_by : Instance → ℤ → Instance
heavier_by i w = with_constant i (int_min w (pos 0))

pub heavier-kept : (i : Instance) (a b : ℕ) (w : ℤ) → HasRoom i a b w → IsInstance (heavier_by i w)
heavier-kept i a b w room =
    let kept = room.kept in
    constant-kept i (int_min w (pos 0)) kept (omega (arith, ints, clamps, room.low)) (omega (arith, ints, clamps, kept.high))

-- the variables are the same, or they are two
pub product-of_one : (i : Instance) (a b : ℕ) (w : ℤ) → a ≡ b → with_product i a b w ≡ with_unit (heavier_by i w) a (unit_weight w)
product-of_one i a b w same = ap (λ (test : Bool). cond test (with_unit (heavier_by i w) a (unit_weight w)) (with_pair (heavier_by i w) a b (pair_weight w))) (eq-eqb a b same)

pub product-of_two : (i : Instance) (a b : ℕ) (w : ℤ) → a ≢ b → with_product i a b w ≡ with_pair (heavier_by i w) a b (pair_weight w)
product-of_two i a b w apart = ap (λ (test : Bool). cond test (with_unit (heavier_by i w) a (unit_weight w)) (with_pair (heavier_by i w) a b (pair_weight w))) (ne_eqb a b apart)

-- what the instance with the weight keeps
pub record Products (i j : Instance) (w : ℤ) : Type 0 where
  pub kept : IsInstance j
  pub count : length j.units ≡ length i.units
  pub first : j.first ≡ i.first
  pub most : most_of j ≡ most_of i +ℤ size_of w
  pub constant : j.constant ≡ i.constant +ℤ int_min w (pos 0)

products-by : (i : Instance) (a b : ℕ) (w : ℤ) (same : Bool) → (a == b) ≡ same → HasRoom i a b w →
    Products i (cond same (with_unit (heavier_by i w) a (unit_weight w)) (with_pair (heavier_by i w) a b (pair_weight w))) w
products-by i a b w true e room =
    let within : a < length i.units = omega (arith, room.order, room.within) in
    record {
      kept = unit-kept (heavier_by i w) a (unit_weight w) (heavier-kept i a b w room) within (unit-in_range w) room.most;
      count = length-set i.units a (unit_sum (get_or i.units a no_unit) (unit_weight w));
      first = refl;
      most = most_of-with_unit (heavier_by i w) a (unit_weight w) within;
      constant = refl;
    }
products-by i a b w false e room =
    let order = room.order in
    let apart : a < b = grind (arith, nat_tests) in
    record {
      kept = pair-kept (heavier_by i w) a b (pair_weight w) (heavier-kept i a b w room) apart room.within (pair-in_range w) room.most;
      count = refl;
      first = refl;
      most = most_of-with_pair (heavier_by i w) a b (pair_weight w) (heavier-kept i a b w room) apart room.within;
      constant = refl;
    }

pub products : (i : Instance) (a b : ℕ) (w : ℤ) → HasRoom i a b w → Products i (with_product i a b w) w
products i a b w room = products-by i a b w (a == b) refl room

-- what the weight adds

binary-at : (xs : List ℕ) (a : ℕ) → list_all (λ x. nat_lt x 2) xs ≡ true → a < length xs → get_or xs a 0 < 2
binary-at xs a h within = ltb-true _ _ (all-at (λ x. nat_lt x 2) xs a 0 within h)

unit-weighs : (w : ℤ) (x : ℕ) → x < 2 → int_min w (pos 0) +ℤ unit_value (unit_weight w) x ≡ cond (eqb x 1 && eqb x 1) w (pos 0)
unit-weighs w zero h = omega (arith, ints, clamps)
unit-weighs w (suc zero) h = omega (arith, ints, clamps)
unit-weighs w (suc (suc x)) h = absurd (omega arith)

pair-weighs : (w : ℤ) (x y : ℕ) → x < 2 → y < 2 → int_min w (pos 0) +ℤ pair_value (pair_weight w) x y ≡ cond (eqb x 1 && eqb y 1) w (pos 0)
pair-weighs w zero zero h g = omega (arith, ints, clamps)
pair-weighs w zero (suc zero) h g = omega (arith, ints, clamps)
pair-weighs w (suc zero) zero h g = omega (arith, ints, clamps)
pair-weighs w (suc zero) (suc zero) h g = omega (arith, ints, clamps)
pair-weighs w zero (suc (suc y)) h g = absurd (omega arith)
pair-weighs w (suc zero) (suc (suc y)) h g = absurd (omega arith)
pair-weighs w (suc (suc x)) y h g = absurd (omega arith)

weighs-by : (i : Instance) (a b : ℕ) (w : ℤ) (xs : List ℕ) (same : Bool) → (a == b) ≡ same → HasRoom i a b w → length xs ≡ length i.units → list_all (λ x. nat_lt x 2) xs ≡ true →
    value_of_all (cond same (with_unit (heavier_by i w) a (unit_weight w)) (with_pair (heavier_by i w) a b (pair_weight w))) xs
    ≡ value_of_all i xs +ℤ product_value (get_or xs a 0) (get_or xs b 0) w
weighs-by i a b w xs true e room whole binary =
    let same : a ≡ b = eqb-true _ _ e in
    let within : a < length i.units = omega (arith, room.order, room.within) in
    let weighs : int_min w (pos 0) +ℤ unit_value (unit_weight w) (get_or xs a 0) ≡ product_value (get_or xs a 0) (get_or xs b 0) w =
    unit-weighs w (get_or xs a 0) (binary-at xs a binary (omega arith)) ∙ ap (λ c. cond (eqb (get_or xs a 0) 1 && eqb (get_or xs c 0) 1) w (pos 0)) same in
    omega (arith, ints, value_of-with_unit (heavier_by i w) a (unit_weight w) xs within whole)
weighs-by i a b w xs false e room whole binary =
    let order = room.order in
    let apart : a < b = grind (arith, nat_tests) in
    let within : b < length i.units = room.within in
    let weighs : int_min w (pos 0) +ℤ pair_value (pair_weight w) (get_or xs a 0) (get_or xs b 0) ≡ product_value (get_or xs a 0) (get_or xs b 0) w =
    pair-weighs w (get_or xs a 0) (get_or xs b 0) (binary-at xs a binary (omega arith)) (binary-at xs b binary (omega arith)) in
    omega (arith, ints, value_of-with_pair (heavier_by i w) a b (pair_weight w) xs (heavier-kept i a b w room) apart within whole)

pub product-weighs : (i : Instance) (a b : ℕ) (w : ℤ) (xs : List ℕ) → HasRoom i a b w → length xs ≡ length i.units → list_all (λ x. nat_lt x 2) xs ≡ true →
    value_of_all (with_product i a b w) xs ≡ value_of_all i xs +ℤ product_value (get_or xs a 0) (get_or xs b 0) w
product-weighs i a b w xs room whole binary = weighs-by i a b w xs (a == b) refl room whole binary
