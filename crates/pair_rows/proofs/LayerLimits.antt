-- The limits of a state's benefits, one by one.
use Rattle.std.proofs.Common.{◌≡◌, ℕ, zero, suc, ◌+◌, ◌-◌, ◌^◌, ◌<◌, ◌≤◌, ℤ, pos, ◌+ℤ◌, ◌≤ℤ◌, Bool, true, List, [], ◌∷◌, ◌++◌, length, drop, take, map, get_or, refl, arith, ap, sym, subst, inl, inr, ◌∙◌, to_z, of_z, w64}
use Rattle.std.specs.Prelude.{IsTrue, ◌&&◌, int_le}
use Rattle.std.proofs.lemmas.Int.{ints, to_z-of_z}
use Rattle.std.proofs.lemmas.List.{drop_more, drop_all, length-drop, length-append, get_or_append_left, get_or_push, get_or_read, take_more, take_all, length-map}
use Rattle.std.proofs.lemmas.Bool.{and_parts, cases_lt}
use mir.Val.{SFits}
use Rattle.dp_model.specs.NumberLaws.{int_le-is}
use Rattle.pair_rows.specs.declared.values.UnitValues.{UnitValues}
use Rattle.pair_rows.specs.declared.values.PairValues.{PairValues}
use Rattle.pair_rows.specs.Pairs.{rows_of, row_at}
use Rattle.pair_rows.specs.Instance.{Instance, unit_most, pair_most, pairs_most, no_pair, no_unit, of_entries}
use Rattle.pair_rows.specs.Limits.{IsInstance, PairFits, pairs_fit}
use Rattle.pair_rows.specs.Program.{raised_limits, first_limits, limits_at, are_within, is_within, words_of}
use Rattle.pair_rows.specs.Table.{limits_through}
use Rattle.pair_rows.specs.Laws.Pairs.{length-row_at}
use Rattle.pair_rows.specs.Laws.Rows.{words_of-some}
use Rattle.pair_rows.specs.Laws.Sizes.{later-positive}
use Rattle.pair_rows.specs.Laws.Totals.{limits, none_negative, sum_of, sum_of-positive}
use Rattle.pair_rows.proofs.Cells.{pair-at, pair_most-at}
use Rattle.pair_rows.proofs.Layers.{RowHas, row-has}

get_or-raised_limits : (ps : List PairValues) (ls : List ℤ) (m : ℕ) → m < length ps → length ps ≡ length ls →
    get_or (raised_limits ps ls) m (pos 0) ≡ get_or ls m (pos 0) +ℤ pair_most (get_or ps m no_pair)
get_or-raised_limits [] ls m h e = absurd (omega arith)
get_or-raised_limits (p ∷ ps) [] m h e = absurd (omega arith)
get_or-raised_limits (p ∷ ps) (l ∷ ls) zero h e = refl
get_or-raised_limits (p ∷ ps) (l ∷ ls) (suc m) h e = get_or-raised_limits ps ls m (omega arith) (omega arith)

get_or-following : (ls : List ℤ) (m : ℕ) → get_or (drop 1 ls) m (pos 0) ≡ get_or ls (suc m) (pos 0)
get_or-following [] m = refl
get_or-following (l ∷ ls) m = refl

get_or-units : (us : List UnitValues) (v : ℕ) → v < length us → get_or (map unit_most us) v (pos 0) ≡ unit_most (get_or us v no_unit)
get_or-units [] v h = absurd (omega arith)
get_or-units (u ∷ us) zero h = refl
get_or-units (u ∷ us) (suc v) h = get_or-units us v (omega arith)

-- the first limits are the unit weights
pub limit-first : (us : List UnitValues) (v : ℕ) → v < length us → get_or (first_limits us) v (pos 0) ≡ unit_most (get_or us v no_unit)
limit-first [] v h = absurd (omega arith)
limit-first (u ∷ us) v h = get_or-units (u ∷ us) v h

-- after a decision each limit is raised by the weight of the pair
limit-more : (i : Instance) (j v : ℕ) → IsInstance i → j < v → v < length i.units →
    get_or (limits_at i.units i.pairs (j + 1)) (v - (j + 1)) (pos 0) ≡
    get_or (limits_at i.units i.pairs j) (v - j) (pos 0) +ℤ pair_most (get_or (row_at (rows_of (length i.units) i.pairs) j) (v - j - 1) no_pair)
limit-more i j v kept h g =
    let row : List PairValues = row_at (rows_of (length i.units) i.pairs) j in
    let ls : List ℤ = limits_at i.units i.pairs j in
    let m : ℕ = v - j - 1 in
    let entries = length-row_at (length i.units) i.pairs j kept.whole (omega arith) in
    let count = (limits i j kept (omega arith)).count in
    let words = words_of-some (length i.units) j (omega arith) in
    let shorter = length-drop 1 ls in
    let raise : get_or (raised_limits row (drop 1 ls)) m (pos 0) ≡ get_or (drop 1 ls) m (pos 0) +ℤ pair_most (get_or row m no_pair) = get_or-raised_limits row (drop 1 ls) m (omega arith) (omega arith) in
    let one : j + 1 ≡ suc j = omega arith in
    let next : limits_at i.units i.pairs (j + 1) ≡ raised_limits row (drop 1 ls) = ap (λ n. limits_at i.units i.pairs n) one in
    let place : v - (j + 1) ≡ m = omega arith in
    let index : suc m ≡ v - j = omega arith in
    let before : get_or (drop 1 ls) m (pos 0) ≡ get_or ls (v - j) (pos 0) = get_or-following ls m ∙ ap (λ n. get_or ls n (pos 0)) index in
    rw (next, place, raise, before) refl

pub limit-within : (ls : List ℤ) (m : ℕ) → IsTrue (none_negative ls) → (pos 0 ≤ℤ get_or ls m (pos 0)) × (get_or ls m (pos 0) ≤ℤ sum_of ls)
limit-within [] m h = (omega (arith, ints), omega (arith, ints))
limit-within (l ∷ ls) zero h =
    (int_le-is (pos 0) l (and_parts _ _ h).0, omega (arith, ints, sum_of-positive ls (and_parts (int_le (pos 0) l) _ h).1))
limit-within (l ∷ ls) (suc m) h =
    let rest = limit-within ls m (and_parts (int_le (pos 0) l) _ h).1 in
    (rest.0, omega (arith, ints, rest.1, int_le-is (pos 0) l (and_parts _ _ h).0))

record LimitIsSmall (limit : ℤ) : Type 0 where
  pub low : pos 0 ≤ℤ limit
  pub high : limit ≤ℤ pos (2 ^ 48)

limit-small : (i : Instance) (k m : ℕ) → IsInstance i → k ≤ length i.units → LimitIsSmall (get_or (limits_at i.units i.pairs k) m (pos 0))
limit-small i k m kept h =
    let there = limits i k kept h in
    let here = limit-within (limits_at i.units i.pairs k) m there.positive in
    record { low = here.0; high = omega (arith, ints, here.1, there.total, kept.total, later-positive i k kept) }

-- a pass that tests the limits

pub within-more : (ts ls : List ℤ) (m : ℕ) (answer : Bool) → m < length ts → length ts ≤ length ls → SFits w64 (get_or ts m (pos 0)) → SFits w64 (get_or ls m (pos 0)) →
    answer ≡ is_within (to_z w64 (of_z w64 (get_or ts m (pos 0)))) (to_z w64 (of_z w64 (get_or ls m (pos 0)))) → are_within (drop m ts) (drop m ls) ≡ are_within ts ls →
    are_within ts ls ≡ (answer && are_within (drop (m + 1) ts) (drop (m + 1) ls))
within-more ts ls m answer h cells fits limit_fits is before =
    let here : answer ≡ is_within (get_or ts m (pos 0)) (get_or ls m (pos 0)) = rw (to_z-of_z w64 (get_or ts m (pos 0)) fits, to_z-of_z w64 (get_or ls m (pos 0)) limit_fits) at is in
    rw here (sym before ∙ rw (drop_more ts m (pos 0) h, drop_more ls m (pos 0) (omega arith)) refl)

pub within-done : (ts ls : List ℤ) (i : ℕ) → length ts ≤ i → are_within (drop i ts) (drop i ls) ≡ are_within ts ls → true ≡ are_within ts ls
within-done ts ls i h before = ap (λ us. are_within us (drop i ls)) (sym (drop_all i ts h)) ∙ before

-- the constant and the first variable are no matter for limits
pub of-entries : (i : Instance) → IsInstance i → IsInstance (of_entries i.units i.pairs)
of-entries i kept = record {
  variables = kept.variables;
  whole = kept.whole;
  first_some = omega arith;
  first_few = omega arith;
  units = kept.units;
  pairs = kept.pairs;
  low = omega (arith, ints);
  high = omega (arith, ints);
  total = kept.total;
}

-- the entry of a variable before a layer with a later one
pub record PairThere (row : List PairValues) (at_index : ℕ) : Type 0 where
  pub inside : at_index < length row
  pub positive : PairFits (get_or row at_index no_pair)
  pub weight : pair_most (get_or row at_index no_pair) ≤ℤ pos (2 ^ 48)

pub pair-there : (i : Instance) (j v : ℕ) (row : List PairValues) → IsInstance i → j < v → v < length i.units →
    row ≡ row_at (rows_of (length i.units) i.pairs) j → PairThere row (v - j - 1)
pair-there i j v row kept h g is =
    let entries = length-row_at (length i.units) i.pairs j kept.whole (omega arith) in
    let has : RowHas i j (words_of (length i.units)) = row-has i j (words_of (length i.units)) kept (omega arith) refl in
    let positive : IsTrue (pairs_fit row) = rw is has.positive in
    let weight : pairs_most row ≤ℤ pos (2 ^ 48) = rw is has.weight in
    let inside : v - j - 1 < length row = omega (arith, ap length is) in
    record {
      inside = inside;
      positive = pair-at row (v - j - 1) no_pair inside positive;
      weight = omega (arith, ints, pair_most-at row (v - j - 1) no_pair inside positive);
    }

-- the limits after layer k, one by one

pub record NextLimit (i : Instance) (k m : ℕ) (row : List PairValues) (before : List ℤ) : Type 0 where
  pub inside : m + 1 < length before
  pub there : m < length (limits_at i.units i.pairs (k + 1))
  pub positive : PairFits (get_or row m no_pair)
  pub weight : pair_most (get_or row m no_pair) ≤ℤ pos (2 ^ 48)
  pub sum : get_or before (m + 1) (pos 0) +ℤ pair_most (get_or row m no_pair) ≡ get_or (limits_at i.units i.pairs (k + 1)) m (pos 0)
  pub low : pos 0 ≤ℤ get_or (limits_at i.units i.pairs (k + 1)) m (pos 0)
  pub high : get_or (limits_at i.units i.pairs (k + 1)) m (pos 0) ≤ℤ pos (2 ^ 48)

pub next-limit : (i : Instance) (k m : ℕ) (row : List PairValues) (before : List ℤ) → IsInstance i → k < length i.units → m < length row →
    row ≡ row_at (rows_of (length i.units) i.pairs) k → before ≡ limits_at i.units i.pairs k → NextLimit i k m row before
next-limit i k m row before kept h g row_is before_is =
    let entries = length-row_at (length i.units) i.pairs k kept.whole h in
    let rows : length row ≡ length (row_at (rows_of (length i.units) i.pairs) k) = ap length row_is in
    let befores : length before ≡ length (limits_at i.units i.pairs k) = ap length before_is in
    let words = words_of-some (length i.units) k h in
    let here = (limits i k kept (omega arith)).count in
    let following = (limits i (k + 1) kept (omega arith)).count in
    let v : ℕ = k + 1 + m in
    let place : v - k - 1 ≡ m = omega arith in
    let more = limit-more i k v kept (omega arith) (omega arith) in
    let there = pair-there i k v row kept (omega arith) (omega arith) row_is in
    let small = limit-small i (k + 1) m kept (omega arith) in
    let one : v - (k + 1) ≡ m = omega arith in
    let two : v - k ≡ m + 1 = omega arith in
    let sum : get_or (limits_at i.units i.pairs (k + 1)) m (pos 0) ≡ get_or before (m + 1) (pos 0) +ℤ pair_most (get_or row m no_pair) =
    rw (row_is, before_is) (rw (one, place, two) at more) in
    record {
      inside = omega arith;
      there = omega arith;
      positive = subst (λ n. PairFits (get_or row n no_pair)) place there.positive;
      weight = subst (λ n. pair_most (get_or row n no_pair) ≤ℤ pos (2 ^ 48)) place there.weight;
      sum = sym sum;
      low = small.low;
      high = small.high;
    }

-- the limits of all layers, one by one

pub length-limits_through : (us : List UnitValues) (ps : List PairValues) (k : ℕ) → length (limits_through us ps k) ≡ k + 1
length-limits_through us ps zero = refl
length-limits_through us ps (suc k) = omega (arith, length-append (limits_through us ps k) (limits_at us ps (suc k) ∷ []), length-limits_through us ps k)

pub limits_through-at : (us : List UnitValues) (ps : List PairValues) (n k : ℕ) → k ≤ n → get_or (limits_through us ps n) k [] ≡ limits_at us ps k
limits_through-at us ps zero k h =
    let same : 0 ≡ k = omega arith in
    subst (λ (j : ℕ). get_or (limits_through us ps 0) j [] ≡ limits_at us ps j) same refl
limits_through-at us ps (suc n) k h =
    elim (cases_lt k (suc n)) [
      | inl a ↦ get_or_append_left (limits_through us ps n) (limits_at us ps (suc n) ∷ []) [] k (omega (arith, length-limits_through us ps n)) ∙ limits_through-at us ps n k (omega arith)
      | inr a ↦ (let same : suc n ≡ k = omega arith in
          subst (λ (j : ℕ). get_or (limits_through us ps (suc n)) j [] ≡ limits_at us ps j) same
          (get_or_push (limits_through us ps n) (limits_at us ps (suc n)) [] (suc n) (omega (arith, length-limits_through us ps n))))
    ]

pub limits-at : (us : List UnitValues) (ps : List PairValues) (n k : ℕ) (layers : List (List ℤ)) (found : List ℤ) → layers ≡ limits_through us ps n → k ≤ n → found ≡ get_or layers k found → found ≡ limits_at us ps k
limits-at us ps n k layers found is low read =
    let long = length-limits_through us ps n in
    let same : length layers ≡ length (limits_through us ps n) = ap length is in
    get_or_read layers k found (omega arith) read [] ∙ (ap (λ l. get_or l k []) is ∙ limits_through-at us ps n k low)

-- the limits after a layer are as many as its entries
pub following-long : (i : Instance) (k : ℕ) (row : List PairValues) → IsInstance i → k < length i.units → row ≡ row_at (rows_of (length i.units) i.pairs) k → length row ≡ length (limits_at i.units i.pairs (k + 1))
following-long i k row kept h row_is =
    let entries = length-row_at (length i.units) i.pairs k kept.whole h in
    let rows : length row ≡ length (row_at (rows_of (length i.units) i.pairs) k) = ap length row_is in
    let words = words_of-some (length i.units) k h in
    let following = (limits i (k + 1) kept (omega arith)).count in
    omega arith

-- one limit more, and all limits
pub take-next : (ls cells : List ℤ) (i : ℕ) (x : ℤ) → i < length ls → x ≡ get_or ls i (pos 0) → cells ≡ take i ls → cells ++ x ∷ [] ≡ take (i + 1) ls
take-next ls cells i x h e is = ap (λ l. l ++ x ∷ []) is ∙ (ap (λ z. take i ls ++ z ∷ []) e ∙ sym (take_more ls i (pos 0) h))

pub take-done : (ls cells : List ℤ) (i : ℕ) → length ls ≤ i → cells ≡ take i ls → cells ≡ ls
take-done ls cells i h is = is ∙ take_all i ls h

pub length-first : (us : List UnitValues) → length (first_limits us) ≡ words_of (length us)
length-first [] = refl
length-first (u ∷ us) = length-map (u ∷ us) unit_most
