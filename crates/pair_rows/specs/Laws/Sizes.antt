-- Every number of the program is small.
use Rattle.std.specs.Prelude.{◌≡◌, ℕ, zero, suc, ◌<◌, ◌≤◌, ◌^◌, ℤ, pos, ◌+ℤ◌, ◌≤ℤ◌, List, [], ◌∷◌, length, take, drop, Some, IsTrue, refl, ◌==◌, if◌then◌else◌}
use Rattle.std.proofs.Common.{arith, get_or, lit≤}
use Rattle.std.proofs.Math.Seq.{drop-cons}
use Rattle.std.proofs.lemmas.Int.{ints, clamps}
use Rattle.std.proofs.lemmas.Bool.{and_parts}
use Rattle.std.proofs.lemmas.Bool.Decides.{nat_tests}
use Rattle.benefit_rows.specs.Benefits.{size_of, choice_gain, rank_of, gap_of}
use Rattle.benefit_rows.specs.BenefitLaws.{rank_of-positive, choice_gain-positive, choice_gain-most, gap_of-positive, gap_of-most, size_of-bounds}
use Rattle.benefit_rows.proofs.Steps.{size_of-at}
use Rattle.dp_model.specs.NumberLaws.{small_positive, small_gap, small_between, each_small}
use Rattle.dp_model.specs.Gaps.{IsStateOf}
use Rattle.dp_model.specs.Laws.{IsLawful, SizesHold}
use Rattle.dp_model.specs.Lists.{Each}
use Rattle.dp_model.specs.Numbers.{IsSmall}
use Rattle.pair_rows.specs.declared.values.UnitValues.{UnitValues}
use Rattle.pair_rows.specs.declared.values.PairValues.{PairValues}
use Rattle.pair_rows.specs.Pairs.{rows_of, row_at}
use Rattle.pair_rows.specs.Instance.{Instance, pair_most, units_most, pairs_most, rows_most}
use Rattle.pair_rows.specs.Laws.Gaps.{gaps_are_sound, rough_bounds}
use Rattle.pair_rows.specs.Limits.{IsInstance, units_fit, unit_fits, pairs_fit, pair_fits, PairFits}
use Rattle.pair_rows.specs.Laws.Limits.{unit-fits, pair-fits}
use Rattle.pair_rows.specs.Program.{cell_part, shared_gain, row_gain, lesser_units, words_of, limits_at, program_of}
use Rattle.pair_rows.specs.Laws.Pairs.{length-rows_of, drop-rows, all-drop}
use Rattle.pair_rows.specs.Laws.Rows.{words_of-some}
use Rattle.pair_rows.specs.Laws.States.{state-is, steps_are_states}
use Rattle.pair_rows.specs.Laws.Totals.{pairs_most-positive, positive-rows_of, positive-row_at, rows_most-positive, LimitsAt, limits, rank_of-within, rank_of-zero}

-- the root value

pub lesser_units-positive : (us : List UnitValues) → IsTrue (units_fit us) → pos 0 ≤ℤ lesser_units us
lesser_units-positive [] h = omega (arith, ints)
lesser_units-positive (u ∷ us) h =
    let here = unit-fits u (and_parts _ _ h).0 in
    omega (arith, ints, clamps, lesser_units-positive us (and_parts (unit_fits u) _ h).1)

pub lesser_units-most : (us : List UnitValues) → IsTrue (units_fit us) → lesser_units us ≤ℤ units_most us
lesser_units-most [] h = omega (arith, ints)
lesser_units-most (u ∷ us) h =
    let here = unit-fits u (and_parts _ _ h).0 in
    omega (arith, ints, clamps, lesser_units-most us (and_parts (unit_fits u) _ h).1)

root_value-small : (i : Instance) → IsInstance i → IsSmall (i.constant +ℤ lesser_units i.units)
root_value-small i kept =
    let low = lesser_units-positive i.units kept.units in
    let most = lesser_units-most i.units kept.units in
    let pairs = pairs_most-positive i.pairs kept.pairs in
    record { low = omega (arith, ints, kept.low); high = omega (arith, ints, kept.high, kept.total) }

-- the first variable has one value or two, and each other one two

some_values : (i : Instance) (k : ℕ) → IsInstance i → 1 ≤ (if k == 0 then i.first else 2)
some_values i k kept = let some = kept.first_some in grind (arith, nat_tests)

few_values : (i : Instance) (k : ℕ) → IsInstance i → (if k == 0 then i.first else 2) ≤ 1024
few_values i k kept = let few = kept.first_few in grind (arith, nat_tests)

-- states

-- the sizes of a state's benefits and the pairs from the layer on sum to at most 2^48
pub rank-most : (i : Instance) (k : ℕ) (s : List ℤ) → IsInstance i → IsStateOf (program_of i) k s →
    (rank_of (drop k s) +ℤ rows_most (drop k (rows_of (length i.units) i.pairs))) ≤ℤ pos (2 ^ 48)
rank-most i k s kept state =
    let there : LimitsAt i k = limits i k kept state.layer in
    omega (arith, ints, kept.total, there.total, rank_of-within (drop k s) (limits_at i.units i.pairs k) there.positive (state-is i k s state.test).after)

pub later-positive : (i : Instance) (k : ℕ) → IsInstance i → pos 0 ≤ℤ rows_most (drop k (rows_of (length i.units) i.pairs))
later-positive i k kept =
    let rows : List (List PairValues) = rows_of (length i.units) i.pairs in
    rows_most-positive (drop k rows) (all-drop pairs_fit k rows (positive-rows_of (length i.units) i.pairs kept.pairs))

rank_of-cut : (k : ℕ) (s : List ℤ) → rank_of s ≡ rank_of (take k s) +ℤ rank_of (drop k s)
rank_of-cut zero s = omega (arith, ints)
rank_of-cut (suc k) [] = refl
rank_of-cut (suc k) (t ∷ ts) = omega (arith, ints, rank_of-cut k ts)

-- what is decided has no benefit, so a state's rank is that of the layers from its own on
pub rank_of-state : (i : Instance) (k : ℕ) (s : List ℤ) → IsStateOf (program_of i) k s → rank_of s ≡ rank_of (drop k s)
rank_of-state i k s state = omega (arith, ints, rank_of-cut k s, rank_of-zero (take k s) (state-is i k s state.test).before)

state-small : (i : Instance) (k : ℕ) (s : List ℤ) → IsInstance i → IsStateOf (program_of i) k s → Each IsSmall s
state-small i k s kept state =
    let most : rank_of s ≤ℤ pos (2 ^ 48) = omega (arith, ints, rank-most i k s kept state, later-positive i k kept, rank_of-state i k s state) in
    each_small s (λ j below. let bounds = size_of-bounds (get_or s j (pos 0)) in
    small_between (get_or s j (pos 0)) (rank_of s) (omega (arith, ints, bounds, size_of-at s j (pos 0) below)) (omega (arith, ints, bounds, size_of-at s j (pos 0) below)) (omega (arith, ints)))

-- gains

pub cell_part-positive : (p : PairValues) (t : ℤ) (d : ℕ) → PairFits p → pos 0 ≤ℤ cell_part p t d
cell_part-positive p t zero here = omega (arith, ints, clamps)
cell_part-positive p t (suc d) here = omega (arith, ints, clamps)

cell-most : (p : PairValues) (t : ℤ) (d : ℕ) → IsTrue (pair_fits p) →
    cell_part p t d ≤ℤ (size_of t +ℤ pair_most p)
cell-most p t zero h = let here = pair-fits p h in omega (arith, ints, clamps)
cell-most p t (suc d) h = let here = pair-fits p h in omega (arith, ints, clamps)

pub shared_gain-positive : (ps : List PairValues) (ts : List ℤ) (d : ℕ) → IsTrue (pairs_fit ps) → pos 0 ≤ℤ shared_gain ps ts d
shared_gain-positive [] ts d h = omega (arith, ints)
shared_gain-positive (p ∷ ps) [] d h = omega (arith, ints)
shared_gain-positive (p ∷ ps) (t ∷ ts) d h =
    omega (arith, ints, cell_part-positive p t d (pair-fits p (and_parts _ _ h).0), shared_gain-positive ps ts d (and_parts (pair_fits p) _ h).1)

pub shared_gain-most : (ps : List PairValues) (ts : List ℤ) (d : ℕ) → IsTrue (pairs_fit ps) → shared_gain ps ts d ≤ℤ (rank_of ts +ℤ pairs_most ps)
shared_gain-most [] ts d h = omega (arith, ints, rank_of-positive ts)
shared_gain-most (p ∷ ps) [] d h = omega (arith, ints, pairs_most-positive (p ∷ ps) h)
shared_gain-most (p ∷ ps) (t ∷ ts) d h =
    omega (arith, ints, cell-most p t d (and_parts _ _ h).0, shared_gain-most ps ts d (and_parts (pair_fits p) _ h).1)

gain-small : (i : Instance) (k : ℕ) (s : List ℤ) (d : ℕ) → IsInstance i → IsStateOf (program_of i) k s → k < length i.units → IsSmall ((program_of i).gain k s d)
gain-small i k s d kept state layer =
    let rows : List (List PairValues) = rows_of (length i.units) i.pairs in
    let row : List PairValues = row_at rows k in
    let below : k < length s = omega (arith, (state-is i k s state.test).cells, words_of-some (length i.units) k layer) in
    let t : ℤ = get_or s k (pos 0) in
    let ts : List ℤ = drop (suc k) s in
    let cut : drop k s ≡ t ∷ ts = drop-cons s k (pos 0) below in
    let positive_row : IsTrue (pairs_fit row) = positive-row_at rows k (positive-rows_of (length i.units) i.pairs kept.pairs) in
    let rest : rows_most (drop k rows) ≡ pairs_most row +ℤ rows_most (drop (suc k) rows) = rw (drop-rows rows k (omega (arith, length-rows_of (length i.units) i.pairs))) refl in
    let rank : rank_of (drop k s) ≡ size_of t +ℤ rank_of ts = rw cut refl in
    let here : row_gain row (drop k s) d ≡ choice_gain t d +ℤ shared_gain row ts d = rw cut refl in
    small_positive (row_gain row (drop k s) d)
    (omega (arith, ints, here, choice_gain-positive t d, shared_gain-positive row ts d positive_row))
    (omega (arith, ints, here, choice_gain-most t d, shared_gain-most row ts d positive_row, rest, rank, rank-most i k s kept state, later-positive i (suc k) kept))

-- gaps and rough bounds

gap-small : (i : Instance) (k : ℕ) (a s : List ℤ) (g : ℤ) → IsInstance i → IsStateOf (program_of i) k s → Some (gap_of (drop k a) (drop k s)) ≡ Some g → (pos 0 ≤ℤ g) × IsSmall g
gap-small i k a s g kept state e =
    let is : gap_of (drop k a) (drop k s) ≡ g = cc in
    small_gap g (omega (arith, ints, is, gap_of-positive (drop k a) (drop k s)))
    (omega (arith, ints, is, gap_of-most (drop k a) (drop k s), rank-most i k s kept state, later-positive i k kept))

rough-small : (i : Instance) (k : ℕ) (s : List ℤ) (r : ℤ) → IsInstance i → IsStateOf (program_of i) k s →
    Some (rank_of (drop k s) +ℤ rows_most (drop k (rows_of (length i.units) i.pairs))) ≡ Some r → IsSmall r
rough-small i k s r kept state e =
    let is : rank_of (drop k s) +ℤ rows_most (drop k (rows_of (length i.units) i.pairs)) ≡ r = cc in
    small_positive r (omega (arith, ints, is, rank_of-positive (drop k s), later-positive i k kept)) (omega (arith, ints, is, rank-most i k s kept state))

words-some : (n : ℕ) → 1 ≤ words_of n
words-some zero = lit≤ tt
words-some (suc n) = omega arith

words-most : (n : ℕ) → n ≤ 1024 → words_of n ≤ 1024
words-most zero h = lit≤ tt
words-most (suc n) h = h

pub sizes_hold : (i : Instance) → IsInstance i → SizesHold (program_of i)
sizes_hold i kept = record {
  vars = kept.variables;
  some_words = words-some (length i.units);
  words = words-most (length i.units) kept.variables;
  some_choices = λ k h. some_values i k kept;
  choices = λ k h. few_values i k kept;
  root_value = root_value-small i kept;
  cells = λ k s state. (state-is i k s state.test).cells;
  state = λ k s state. state-small i k s kept state;
  gain = λ k s d state allowed. gain-small i k s d kept state allowed.layer;
  gap = λ k a s g one other e. gap-small i k a s g kept other e;
  rough = λ k s r state e. rough-small i k s r kept state e;
}

-- the six laws
pub lawful_program : (i : Instance) → IsInstance i → IsLawful (program_of i)
lawful_program i kept = record {
  states = steps_are_states i kept;
  gaps = gaps_are_sound i kept;
  rough = rough_bounds i kept;
  sizes = sizes_hold i kept;
}
