-- An instance with an entry more keeps to the limits, and gives more by what the entry gives.
use Rattle.std.proofs.Common.{◌≡◌, ℕ, ◌^◌, ◌<◌, ◌≤◌, ℤ, pos, neg_ℤ, ◌+ℤ◌, ◌≤ℤ◌, List, length, get_or, set, replicate, arith, refl, ap, ◌∙◌}
use Rattle.std.specs.Prelude.{IsTrue}
use Rattle.std.proofs.lemmas.Int.{ints}
use Rattle.std.proofs.lemmas.List.{length-set, length-replicate}
use Rattle.pair_rows.specs.declared.values.UnitValues.{UnitValues}
use Rattle.pair_rows.specs.declared.values.PairValues.{PairValues}
use Rattle.pair_rows.specs.Pairs.{rows_of, pair_count}
use Rattle.pair_rows.specs.Instance.{Instance, unit_most, pair_most, no_unit, no_pair}
use Rattle.pair_rows.specs.Limits.{IsInstance, unit_fits, pair_fits}
use Rattle.pair_rows.specs.Laws.Pairs.{all-at}
use Rattle.pair_rows.specs.OwnWords.{unit_value, pair_value, rows_value, value_of_all}
use Rattle.pair_problem.specs.Room.{most_of}
use Rattle.pair_problem.specs.Adding.{unit_sum, pair_sum, nothing_of, place_of, with_constant, with_unit, with_pair}
use Rattle.pair_problem.specs.Laws.Adding.{all-set, all-replicate, total_by-set, total_by-replicate, unit_sum-fits, pair_sum-fits, units_value-set, rows_value-set, units_value-none, rows_value-none, place-within}

pub most_of-nothing : (n : ℕ) → most_of (nothing_of n) ≡ pos 0
most_of-nothing n = omega (arith, ints, total_by-replicate unit_most n no_unit refl, total_by-replicate pair_most (pair_count n) no_pair refl)

pub nothing-kept : (n : ℕ) → n ≤ 1024 → IsInstance (nothing_of n)
nothing-kept n few = record {
  variables = omega (arith, length-replicate n no_unit);
  whole = length-replicate (pair_count n) no_pair ∙ ap pair_count (omega (arith, length-replicate n no_unit));
  first_some = omega arith;
  first_few = omega arith;
  units = all-replicate unit_fits n no_unit refl;
  pairs = all-replicate pair_fits (pair_count n) no_pair refl;
  low = omega (arith, ints);
  high = omega (arith, ints);
  total = omega (arith, ints, most_of-nothing n);
}

pub value_of-nothing : (n : ℕ) (xs : List ℕ) → value_of_all (nothing_of n) xs ≡ pos 0
value_of-nothing n xs =
    let rows : rows_value (rows_of (length (replicate n no_unit)) (replicate (pair_count n) no_pair)) xs ≡ rows_value (rows_of n (replicate (pair_count n) no_pair)) xs =
    ap (λ m. rows_value (rows_of m (replicate (pair_count n) no_pair)) xs) (length-replicate n no_unit) in
    omega (arith, ints, units_value-none n xs, rows_value-none n xs)

-- a constant more

pub constant-kept : (i : Instance) (z : ℤ) → IsInstance i → neg_ℤ (pos (2 ^ 48)) ≤ℤ (i.constant +ℤ z) → (i.constant +ℤ z) ≤ℤ pos (2 ^ 48) → IsInstance (with_constant i z)
constant-kept i z kept low high =
    record { variables = kept.variables; whole = kept.whole; first_some = kept.first_some; first_few = kept.first_few; units = kept.units; pairs = kept.pairs; low = low; high = high; total = kept.total }

-- what a variable gives more

pub most_of-with_unit : (i : Instance) (a : ℕ) (u : UnitValues) → a < length i.units → most_of (with_unit i a u) ≡ most_of i +ℤ u.most
most_of-with_unit i a u h = omega (arith, ints, total_by-set unit_most i.units a no_unit (unit_sum (get_or i.units a no_unit) u) h)

pub unit-kept : (i : Instance) (a : ℕ) (u : UnitValues) → IsInstance i → a < length i.units → IsTrue (unit_fits u) → (most_of i +ℤ u.most) ≤ℤ pos (2 ^ 48) → IsInstance (with_unit i a u)
unit-kept i a u kept h fits room =
    let long = length-set i.units a (unit_sum (get_or i.units a no_unit) u) in
    record {
      variables = omega (arith, kept.variables);
      whole = rw long kept.whole;
      first_some = kept.first_some;
      first_few = kept.first_few;
      units = all-set unit_fits i.units a _ kept.units (unit_sum-fits (get_or i.units a no_unit) u (all-at unit_fits i.units a no_unit h kept.units) fits);
      pairs = kept.pairs;
      low = kept.low;
      high = kept.high;
      total = omega (arith, ints, most_of-with_unit i a u h);
    }

pub value_of-with_unit : (i : Instance) (a : ℕ) (u : UnitValues) (xs : List ℕ) → a < length i.units → length xs ≡ length i.units →
    value_of_all (with_unit i a u) xs ≡ value_of_all i xs +ℤ unit_value u (get_or xs a 0)
value_of-with_unit i a u xs h e =
    let rows : rows_value (rows_of (length (set i.units a (unit_sum (get_or i.units a no_unit) u))) i.pairs) xs ≡ rows_value (rows_of (length i.units) i.pairs) xs =
    ap (λ m. rows_value (rows_of m i.pairs) xs) (length-set i.units a (unit_sum (get_or i.units a no_unit) u)) in
    omega (arith, ints, units_value-set i.units a u xs h e)

-- what two variables give more

pub most_of-with_pair : (i : Instance) (a b : ℕ) (p : PairValues) → IsInstance i → a < b → b < length i.units → most_of (with_pair i a b p) ≡ most_of i +ℤ p.most
most_of-with_pair i a b p kept order h =
    let at : ℕ = place_of (length i.units) a b in
    let within : at < length i.pairs = omega (arith, kept.whole, place-within (length i.units) a b order h) in
    omega (arith, ints, total_by-set pair_most i.pairs at no_pair (pair_sum (get_or i.pairs at no_pair) p) within)

pub pair-kept : (i : Instance) (a b : ℕ) (p : PairValues) → IsInstance i → a < b → b < length i.units → IsTrue (pair_fits p) → (most_of i +ℤ p.most) ≤ℤ pos (2 ^ 48) → IsInstance (with_pair i a b p)
pair-kept i a b p kept order h fits room =
    let at : ℕ = place_of (length i.units) a b in
    let within : at < length i.pairs = omega (arith, kept.whole, place-within (length i.units) a b order h) in
    record {
      variables = kept.variables;
      whole = length-set i.pairs at (pair_sum (get_or i.pairs at no_pair) p) ∙ kept.whole;
      first_some = kept.first_some;
      first_few = kept.first_few;
      units = kept.units;
      pairs = all-set pair_fits i.pairs at _ kept.pairs (pair_sum-fits (get_or i.pairs at no_pair) p (all-at pair_fits i.pairs at no_pair within kept.pairs) fits);
      low = kept.low;
      high = kept.high;
      total = omega (arith, ints, most_of-with_pair i a b p kept order h);
    }

pub value_of-with_pair : (i : Instance) (a b : ℕ) (p : PairValues) (xs : List ℕ) → IsInstance i → a < b → b < length i.units → length xs ≡ length i.units →
    value_of_all (with_pair i a b p) xs ≡ value_of_all i xs +ℤ pair_value p (get_or xs a 0) (get_or xs b 0)
value_of-with_pair i a b p xs kept order h e = omega (arith, ints, rows_value-set (length i.units) a b i.pairs p xs kept.whole e order h)
