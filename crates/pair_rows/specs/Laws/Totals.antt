-- Sums of what entries give, and the limits of a state's benefits.
use Rattle.std.specs.Prelude.{◌≡◌, ℕ, zero, suc, ◌+◌, ◌≤◌, ℤ, pos, ◌+ℤ◌, ◌≤ℤ◌, Bool, int_le, List, [], ◌∷◌, length, take, drop, map, IsTrue, refl}
use Rattle.std.specs.List.{list_all}
use Rattle.std.proofs.Common.{arith}
use Rattle.std.proofs.lemmas.Int.{ints}
use Rattle.std.proofs.lemmas.List.{length-drop}
use Rattle.std.proofs.lemmas.Bool.{and_parts, and_from}
use Rattle.benefit_rows.specs.Benefits.{rank_of}
use Rattle.benefit_rows.specs.BenefitLaws.{size_of-positive}
use Rattle.dp_model.specs.NumberLaws.{int_le-is, int_le-from}
use Rattle.pair_rows.specs.declared.values.UnitValues.{UnitValues}
use Rattle.pair_rows.specs.declared.values.PairValues.{PairValues}
use Rattle.pair_rows.specs.Pairs.{rows_of, row_at, pair_count, total_by}
use Rattle.pair_rows.specs.Instance.{Instance, unit_most, pair_most, units_most, pairs_most, rows_most}
use Rattle.pair_rows.specs.Limits.{IsInstance, units_fit, pairs_fit, pair_fits, unit_fits}
use Rattle.pair_rows.specs.Laws.Limits.{size-is, unit-fits, pair-fits}
use Rattle.pair_rows.specs.Program.{is_within, raised_limits, first_limits, limits_at, are_within, all_zero, words_of}
use Rattle.pair_rows.specs.Laws.Pairs.{all-take, total_by-positive, total_by-cut, total-rows_of, all-rows_of, all-row_at, length-rows_of, length-row_at, drop-rows}
use Rattle.pair_rows.specs.Laws.Rows.{words_of-some}

-- the sum of some numbers
abbrev pub sum_of : List ℤ → ℤ
sum_of ls = total_by (λ l. l) ls

abbrev pub none_negative : List ℤ → Bool
none_negative ls = list_all (int_le (pos 0)) ls

pub sum_of-positive : (ls : List ℤ) → IsTrue (none_negative ls) → pos 0 ≤ℤ sum_of ls
sum_of-positive ls h = total_by-positive (λ l. l) (int_le (pos 0)) (int_le-is (pos 0)) ls h

-- what entries give at most

pub unit_most-low : (u : UnitValues) → IsTrue (unit_fits u) → pos 0 ≤ℤ unit_most u
unit_most-low u h = let here = unit-fits u h in omega (arith, ints)

pub units_most-positive : (us : List UnitValues) → IsTrue (units_fit us) → pos 0 ≤ℤ units_most us
units_most-positive us h = total_by-positive unit_most unit_fits unit_most-low us h

pub pair_most-low : (p : PairValues) → IsTrue (pair_fits p) → pos 0 ≤ℤ pair_most p
pair_most-low p h = let here = pair-fits p h in omega (arith, ints)

pub pairs_most-positive : (ps : List PairValues) → IsTrue (pairs_fit ps) → pos 0 ≤ℤ pairs_most ps
pairs_most-positive ps h = total_by-positive pair_most pair_fits pair_most-low ps h

-- rows

pub rows_most-rows_of : (n : ℕ) (ps : List PairValues) → length ps ≡ pair_count n → rows_most (rows_of n ps) ≡ pairs_most ps
rows_most-rows_of n ps e = total-rows_of pair_most n ps e

abbrev pub rows_fit : List (List PairValues) → Bool
rows_fit rows = list_all pairs_fit rows

pub positive-rows_of : (n : ℕ) (ps : List PairValues) → IsTrue (pairs_fit ps) → IsTrue (rows_fit (rows_of n ps))
positive-rows_of n ps h = all-rows_of pair_fits n ps h

pub positive-row_at : (rows : List (List PairValues)) (k : ℕ) → IsTrue (rows_fit rows) → IsTrue (pairs_fit (row_at rows k))
positive-row_at rows k h = all-row_at pair_fits rows k h

pub rows_most-positive : (rows : List (List PairValues)) → IsTrue (rows_fit rows) → pos 0 ≤ℤ rows_most rows
rows_most-positive rows h = total_by-positive pairs_most pairs_fit pairs_most-positive rows h

pub rows_most-drop : (rows : List (List PairValues)) (k : ℕ) → IsTrue (rows_fit rows) → rows_most (drop k rows) ≤ℤ rows_most rows
rows_most-drop rows k h =
    omega (arith, ints, total_by-cut pairs_most k rows, rows_most-positive (take k rows) (all-take pairs_fit k rows h))

-- limits

pub length-raised_limits : (ps : List PairValues) (ls : List ℤ) → length ps ≡ length ls → length (raised_limits ps ls) ≡ length ls
length-raised_limits [] [] e = refl
length-raised_limits [] (l ∷ ls) e = absurd (omega arith)
length-raised_limits (p ∷ ps) [] e = absurd (omega arith)
length-raised_limits (p ∷ ps) (l ∷ ls) e = omega (arith, length-raised_limits ps ls (omega arith))

pub sum_of-raised_limits : (ps : List PairValues) (ls : List ℤ) → length ps ≡ length ls → sum_of (raised_limits ps ls) ≡ sum_of ls +ℤ pairs_most ps
sum_of-raised_limits [] [] e = refl
sum_of-raised_limits [] (l ∷ ls) e = absurd (omega arith)
sum_of-raised_limits (p ∷ ps) [] e = absurd (omega arith)
sum_of-raised_limits (p ∷ ps) (l ∷ ls) e = omega (arith, ints, sum_of-raised_limits ps ls (omega arith))

pub none_negative-raised_limits : (ps : List PairValues) (ls : List ℤ) → IsTrue (pairs_fit ps) → IsTrue (none_negative ls) → IsTrue (none_negative (raised_limits ps ls))
none_negative-raised_limits [] ls h g = refl
none_negative-raised_limits (p ∷ ps) [] h g = refl
none_negative-raised_limits (p ∷ ps) (l ∷ ls) h g =
    let here = pair_most-low p (and_parts _ _ h).0 in
    let low = int_le-is (pos 0) l (and_parts _ _ g).0 in
    and_from (int_le (pos 0) (l +ℤ pair_most p)) _ (int_le-from (pos 0) (l +ℤ pair_most p) (omega (arith, ints)))
    (none_negative-raised_limits ps ls (and_parts (pair_fits p) _ h).1 (and_parts (int_le (pos 0) l) _ g).1)

-- the limits after the first

pub sum_of-drop_one : (ls : List ℤ) → IsTrue (none_negative ls) → sum_of (drop 1 ls) ≤ℤ sum_of ls
sum_of-drop_one [] h = omega (arith, ints)
sum_of-drop_one (l ∷ ls) h = omega (arith, ints, int_le-is (pos 0) l (and_parts _ _ h).0)

pub none_negative-drop_one : (ls : List ℤ) → IsTrue (none_negative ls) → IsTrue (none_negative (drop 1 ls))
none_negative-drop_one [] h = refl
none_negative-drop_one (l ∷ ls) h = (and_parts (int_le (pos 0) l) _ h).1

pub sum_of-units : (us : List UnitValues) → sum_of (map unit_most us) ≡ units_most us
sum_of-units [] = refl
sum_of-units (u ∷ us) = omega (arith, ints, sum_of-units us)

pub sum_of-first_limits : (us : List UnitValues) → sum_of (first_limits us) ≡ units_most us
sum_of-first_limits [] = refl
sum_of-first_limits (u ∷ us) = sum_of-units (u ∷ us)

none_negative-units : (us : List UnitValues) → IsTrue (units_fit us) → IsTrue (none_negative (map unit_most us))
none_negative-units [] h = refl
none_negative-units (u ∷ us) h =
    and_from (int_le (pos 0) (unit_most u)) _ (int_le-from (pos 0) (unit_most u) (unit_most-low u (and_parts _ _ h).0)) (none_negative-units us (and_parts (unit_fits u) _ h).1)

none_negative-first : (us : List UnitValues) → IsTrue (units_fit us) → IsTrue (none_negative (first_limits us))
none_negative-first [] h = refl
none_negative-first (u ∷ us) h = none_negative-units (u ∷ us) h

length-map_units : (us : List UnitValues) → length (map unit_most us) ≡ length us
length-map_units [] = refl
length-map_units (u ∷ us) = omega (arith, length-map_units us)

length-first_limits : (us : List UnitValues) → length (first_limits us) ≡ words_of (length us)
length-first_limits [] = refl
length-first_limits (u ∷ us) = length-map_units (u ∷ us)

-- the limits of a layer: how many they are, that none is negative, and that with the pairs from the layer on they sum to at most what all entries give
pub record LimitsAt (i : Instance) (k : ℕ) : Type 0 where
  pub count : length (limits_at i.units i.pairs k) + k ≡ words_of (length i.units)
  pub positive : IsTrue (none_negative (limits_at i.units i.pairs k))
  pub total : (sum_of (limits_at i.units i.pairs k) +ℤ rows_most (drop k (rows_of (length i.units) i.pairs))) ≤ℤ (units_most i.units +ℤ pairs_most i.pairs)

pub limits : (i : Instance) (k : ℕ) → IsInstance i → k ≤ length i.units → LimitsAt i k
limits i zero kept h = record {
  count = omega (arith, length-first_limits i.units);
  positive = none_negative-first i.units kept.units;
  total = omega (arith, ints, sum_of-first_limits i.units, rows_most-rows_of (length i.units) i.pairs kept.whole);
}
limits i (suc k) kept h =
    let before : LimitsAt i k = limits i k kept (omega arith) in
    let rows : List (List PairValues) = rows_of (length i.units) i.pairs in
    let row : List PairValues = row_at rows k in
    let words = words_of-some (length i.units) k (omega arith) in
    let tail : List ℤ = drop 1 (limits_at i.units i.pairs k) in
    let entries = length-row_at (length i.units) i.pairs k kept.whole (omega arith) in
    let shorter = length-drop 1 (limits_at i.units i.pairs k) in
    let same : length row ≡ length tail = omega (arith, before.count) in
    let positive_row : IsTrue (pairs_fit row) = positive-row_at rows k (positive-rows_of (length i.units) i.pairs kept.pairs) in
    let rest : rows_most (drop k rows) ≡ pairs_most row +ℤ rows_most (drop (suc k) rows) = rw (drop-rows rows k (omega (arith, length-rows_of (length i.units) i.pairs))) refl in
    record {
      count = omega (arith, length-raised_limits row tail same, before.count);
      positive = none_negative-raised_limits row tail positive_row (none_negative-drop_one (limits_at i.units i.pairs k) before.positive);
      total = omega (arith, ints, sum_of-raised_limits row tail same, sum_of-drop_one (limits_at i.units i.pairs k) before.positive, before.total);
    }

-- a row within its limits

pub rank_of-within : (ts ls : List ℤ) → IsTrue (none_negative ls) → IsTrue (are_within ts ls) → rank_of ts ≤ℤ sum_of ls
rank_of-within [] ls h g = sum_of-positive ls h
rank_of-within (t ∷ ts) [] h g = absurd (grind arith)
rank_of-within (t ∷ ts) (l ∷ ls) h g =
    omega (arith, ints, size-is t l (and_parts _ _ g).0, rank_of-within ts ls (and_parts (int_le (pos 0) l) _ h).1 (and_parts (is_within t l) _ g).1)

pub rank_of-zero : (ts : List ℤ) → IsTrue (all_zero ts) → rank_of ts ≡ pos 0
rank_of-zero [] h = refl
rank_of-zero (t ∷ ts) h =
    omega (arith, ints, size-is t (pos 0) (and_parts _ _ h).0, size_of-positive t, rank_of-zero ts (and_parts (is_within t (pos 0)) _ h).1)
