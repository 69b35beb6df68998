-- The variables and pairs that an instance lists are in range, and give what the clauses give.
use Rattle.std.specs.Prelude.{◌≡◌, ℕ, zero, suc, ℤ, ◌+ℤ◌, Bool, true, false, ◌&&◌, ◌==◌, nat_lt, List, [], ◌∷◌, length, map, IsTrue, refl}
use Rattle.std.proofs.Common.{arith, ap, sym, ◌∙◌}
use Rattle.std.proofs.lemmas.Int.{ints}
use Rattle.std.proofs.lemmas.List.{length-map}
use Rattle.std.proofs.lemmas.Bool.{and_parts, and_from}
use Rattle.pair_rows.specs.Pairs.{rows_of}
use Rattle.pair_rows.specs.Instance.{units_most, pairs_most}
use Rattle.pair_rows.specs.Limits.{IsInstance, is_up_to, unit_fits, pair_fits, units_fit, pairs_fit}
use Rattle.pair_rows.specs.Laws.Limits.{is-up_to}
use Rattle.pair_rows.specs.Laws.Pairs.{rows_of-map}
use Rattle.pair_rows.specs.Laws.Solutions.{begins-binary}
use Rattle.pair_rows.specs.OwnWords as plain
use Rattle.max_two_sat.specs.declared.weights.UnitWeights.{UnitWeights}
use Rattle.max_two_sat.specs.declared.weights.PairWeights.{PairWeights}
use Rattle.max_two_sat.specs.Instance.{Instance, unit_total, pair_total, units_total, pairs_total}
use Rattle.max_two_sat.specs.Limits.{IsWithinLimits, unit_is_positive, pair_is_positive, units_are_positive, pairs_are_positive}
use Rattle.max_two_sat.specs.Laws.Limits.{unit-positive, pair-positive}
use Rattle.max_two_sat.specs.Laws.Totals.{parts-small}
use Rattle.max_two_sat.specs.OwnWords.{unit_value, pair_value, units_value, row_value, rows_value, weight_of}
use Rattle.max_two_sat.specs.Program.{unit_values, pair_values, rows_in}

-- in range

unit-in_range : (u : UnitWeights) → IsTrue (unit_is_positive u) → IsTrue (unit_fits (unit_values u))
unit-in_range u h =
    let here = unit-positive u h in
    and_from (is_up_to (unit_total u) (unit_value u 0)) _ (is-up_to (unit_total u) (unit_value u 0) (omega (arith, ints)) (omega (arith, ints)))
    (is-up_to (unit_total u) (unit_value u 1) (omega (arith, ints)) (omega (arith, ints)))

pub units-in_range : (us : List UnitWeights) → IsTrue (units_are_positive us) → IsTrue (units_fit (map unit_values us))
units-in_range [] h = refl
units-in_range (u ∷ us) h =
    and_from (unit_fits (unit_values u)) _ (unit-in_range u (and_parts _ _ h).0) (units-in_range us (and_parts (unit_is_positive u) _ h).1)

pair-in_range : (p : PairWeights) → IsTrue (pair_is_positive p) → IsTrue (pair_fits (pair_values p))
pair-in_range p h =
    let here = pair-positive p h in
    let m : ℤ = pair_total p in
    and_from (is_up_to m (pair_value p 0 0) && is_up_to m (pair_value p 0 1)) _
    (and_from (is_up_to m (pair_value p 0 0)) _ (is-up_to m (pair_value p 0 0) (omega (arith, ints)) (omega (arith, ints))) (is-up_to m (pair_value p 0 1) (omega (arith, ints)) (omega (arith, ints))))
    (and_from (is_up_to m (pair_value p 1 0)) _ (is-up_to m (pair_value p 1 0) (omega (arith, ints)) (omega (arith, ints))) (is-up_to m (pair_value p 1 1) (omega (arith, ints)) (omega (arith, ints))))

pub pairs-in_range : (ps : List PairWeights) → IsTrue (pairs_are_positive ps) → IsTrue (pairs_fit (map pair_values ps))
pairs-in_range [] h = refl
pairs-in_range (p ∷ ps) h =
    and_from (pair_fits (pair_values p)) _ (pair-in_range p (and_parts _ _ h).0) (pairs-in_range ps (and_parts (pair_is_positive p) _ h).1)

pub units-most : (us : List UnitWeights) → units_most (map unit_values us) ≡ units_total us
units-most [] = refl
units-most (u ∷ us) = ap (λ z. unit_total u +ℤ z) (units-most us)

pub pairs-most : (ps : List PairWeights) → pairs_most (map pair_values ps) ≡ pairs_total ps
pairs-most [] = refl
pairs-most (p ∷ ps) = ap (λ z. pair_total p +ℤ z) (pairs-most ps)

pub rows-kept : (i : Instance) → IsWithinLimits i → IsInstance (rows_in i)
rows-kept i kept =
    let small = parts-small i kept in
    record {
      variables = omega (arith, length-map i.units unit_values, kept.variables);
      whole = rw (length-map i.units unit_values) (length-map i.pairs pair_values ∙ kept.whole);
      first_some = omega arith;
      first_few = omega arith;
      units = units-in_range i.units kept.units;
      pairs = pairs-in_range i.pairs kept.pairs;
      low = omega (arith, ints, kept.tautologies);
      high = small.tautologies;
      total = rw (units-most i.units, pairs-most i.pairs) small.both;
    }

-- what the clauses give

unit-same : (u : UnitWeights) (x : ℕ) → plain.unit_value (unit_values u) x ≡ unit_value u x
unit-same u zero = refl
unit-same u (suc x) = refl

pub units-same : (us : List UnitWeights) (xs : List ℕ) → plain.units_value (map unit_values us) xs ≡ units_value us xs
units-same [] xs = refl
units-same (u ∷ us) [] = refl
units-same (u ∷ us) (x ∷ xs) = omega (arith, ints, unit-same u x, units-same us xs)

pair-same : (p : PairWeights) (x y : ℕ) → plain.pair_value (pair_values p) x y ≡ pair_value p x y
pair-same p zero zero = refl
pair-same p zero (suc y) = refl
pair-same p (suc x) zero = refl
pair-same p (suc x) (suc y) = refl

pub row-same : (ps : List PairWeights) (x : ℕ) (ys : List ℕ) → plain.row_value (map pair_values ps) x ys ≡ row_value ps x ys
row-same [] x ys = refl
row-same (p ∷ ps) x [] = refl
row-same (p ∷ ps) x (y ∷ ys) = omega (arith, ints, pair-same p x y, row-same ps x ys)

pub rows-same : (rows : List (List PairWeights)) (xs : List ℕ) → plain.rows_value (map (map pair_values) rows) xs ≡ rows_value rows xs
rows-same [] xs = refl
rows-same (row ∷ rows) [] = refl
rows-same (row ∷ rows) (x ∷ xs) = omega (arith, ints, row-same row x xs, rows-same rows xs)

pub weight-same : (i : Instance) (xs : List ℕ) → weight_of i xs ≡ plain.value_of_all (rows_in i) xs
weight-same i xs =
    let rows : plain.rows_value (rows_of (length (map unit_values i.units)) (map pair_values i.pairs)) xs ≡ rows_value (rows_of (length i.units) i.pairs) xs =
    ap (λ n. plain.rows_value (rows_of n (map pair_values i.pairs)) xs) (length-map i.units unit_values)
    ∙ (ap (λ rows. plain.rows_value rows xs) (rows_of-map pair_values (length i.units) i.pairs) ∙ rows-same (rows_of (length i.units) i.pairs) xs) in
    omega (arith, ints, units-same i.units xs)

-- the same assignments

pub test-same : (i : Instance) (xs : List ℕ) → (length xs == length i.units) && plain.are_binary xs ≡ plain.is_assignment (rows_in i) xs
test-same i xs =
    ap (λ n. (length xs == n) && plain.are_binary xs) (sym (length-map i.units unit_values))
    ∙ ap (λ b. (length xs == length (map unit_values i.units)) && b) (begins-binary xs)
