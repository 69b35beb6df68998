-- What a layer of a problem in memory has, for a state of it.
use Rattle.std.proofs.Common.{◌≡◌, ℕ, zero, suc, Bool, true, false, eq-eqb, take, replicate, ◌+◌, ◌^◌, ◌<◌, ◌≤◌, ℤ, pos, ◌+ℤ◌, ◌≤ℤ◌, FitsSigned, to_z, of_z, w64, List, length, drop, get_or, refl, arith, ap, sym, ◌∙◌}
use Rattle.std.specs.Prelude.{IsTrue, ◌==◌}
use Rattle.std.proofs.lemmas.Int.{ints, to_z-of_z}
use Rattle.benefit_rows.specs.Benefits.{rank_of}
use Rattle.benefit_rows.specs.BenefitLaws.{rank_of-positive}
use Rattle.pair_rows.proofs.RunningSums.{PartsAdd, parts-add}
use Rattle.dp_model.specs.Dp.{IsAllowed}
use Rattle.dp_model.specs.Gaps.{IsStateOf}
use Rattle.pair_rows.specs.declared.values.PairValues.{PairValues}
use Rattle.pair_rows.specs.Pairs.{rows_of, row_at}
use Rattle.pair_rows.specs.Instance.{Instance, pairs_most, units_most, rows_most}
use Rattle.pair_rows.specs.Fitting.{FitsState}
use Rattle.pair_rows.specs.Limits.{IsInstance, pairs_fit}
use Rattle.pair_rows.specs.Program.{all_zero, are_within, is_state_of, limits_at, lesser_units, program_of, words_of}
use Rattle.pair_rows.specs.Laws.Pairs.{length-rows_of, length-row_at, drop-rows}
use Rattle.pair_rows.specs.Laws.Rows.{words_of-some}
use Rattle.pair_rows.specs.Laws.Sizes.{lesser_units-positive, lesser_units-most, rank-most, later-positive, rank_of-state}
use Rattle.pair_rows.specs.Laws.States.{state-is}
use Rattle.pair_rows.specs.Laws.Solutions.{few-choices}
use Rattle.pair_rows.specs.Table.{later_totals}
use Rattle.pair_rows.proofs.Table.{later_totals-at, length-later_totals}
use Rattle.pair_rows.proofs.Shifting.{zeros-before}
use Rattle.pair_rows.specs.Laws.Totals.{units_most-positive, positive-rows_of, positive-row_at, rows_most-rows_of, rows_most-drop, pairs_most-positive}

-- a state of the layer, by the instance itself
pub record LayerHas (i : Instance) (k : ℕ) (s : List ℤ) : Type 0 where
  pub cells : length s ≡ words_of (length i.units)
  pub rank : rank_of (drop k s) ≤ℤ pos (2 ^ 48)
  pub whole_rank : rank_of s ≤ℤ pos (2 ^ 48)
  pub rough : (rank_of (drop k s) +ℤ rows_most (drop k (rows_of (length i.units) i.pairs))) ≤ℤ pos (2 ^ 48)
  pub later_low : pos 0 ≤ℤ rows_most (drop k (rows_of (length i.units) i.pairs))

pub layer-has : (i : Instance) (k : ℕ) (s : List ℤ) → IsInstance i → IsStateOf (program_of i) k s → LayerHas i k s
layer-has i k s kept state =
    let later = later-positive i k kept in
    let most = rank-most i k s kept state in
    record {
      cells = (state-is i k s state.test).cells;
      rank = omega (arith, ints);
      whole_rank = omega (arith, ints, rank_of-state i k s state);
      rough = most;
      later_low = later;
    }

-- the rank of a state, as it is told
pub record ToldRank (k : ℕ) (s : List ℤ) (told : ℤ) : Type 0 where
  pub is : told ≡ rank_of (drop k s)
  pub low : pos 0 ≤ℤ told
  pub high : told ≤ℤ pos (2 ^ 60)

pub told-rank : (i : Instance) (k : ℕ) (s : List ℤ) (told : ℤ) → IsInstance i → IsStateOf (program_of i) k s → told ≡ (program_of i).rank k s → ToldRank k s (to_z w64 (of_z w64 told))
told-rank i k s told kept state told_is =
    let low = rank_of-positive (drop k s) in
    let high = (layer-has i k s kept state).rank in
    let is : told ≡ rank_of (drop k s) = told_is ∙ rank_of-state i k s state in
    let read : to_z w64 (of_z w64 told) ≡ rank_of (drop k s) = rw is (to_z-of_z w64 (rank_of (drop k s)) (omega (arith, ints))) in
    record { is = read; low = omega (arith, ints); high = omega (arith, ints) }

-- the row of the layer's variable
pub record RowHas (i : Instance) (k : ℕ) (cells : ℕ) : Type 0 where
  pub entries : length (row_at (rows_of (length i.units) i.pairs) k) + suc k ≡ cells
  pub positive : IsTrue (pairs_fit (row_at (rows_of (length i.units) i.pairs) k))
  pub weight : pairs_most (row_at (rows_of (length i.units) i.pairs) k) ≤ℤ pos (2 ^ 48)

pub row-has : (i : Instance) (k cells : ℕ) → IsInstance i → k < length i.units → cells ≡ words_of (length i.units) → RowHas i k cells
row-has i k cells kept layer is =
    let rows : List (List PairValues) = rows_of (length i.units) i.pairs in
    let positive : IsTrue (pairs_fit (row_at rows k)) = positive-row_at rows k (positive-rows_of (length i.units) i.pairs kept.pairs) in
    let rest : rows_most (drop k rows) ≡ pairs_most (row_at rows k) +ℤ rows_most (drop (suc k) rows) = rw (drop-rows rows k (omega (arith, length-rows_of (length i.units) i.pairs))) refl in
    let front = rows_most-drop rows k (positive-rows_of (length i.units) i.pairs kept.pairs) in
    let all = rows_most-rows_of (length i.units) i.pairs kept.whole in
    let later = later-positive i (suc k) kept in
    let units = units_most-positive i.units kept.units in
    record {
      entries = omega (arith, length-row_at (length i.units) i.pairs k kept.whole layer, words_of-some (length i.units) k layer);
      positive = positive;
      weight = omega (arith, ints, kept.total);
    }

-- a test of a row at a layer
pub state-of : (i : Instance) (k : ℕ) (s : List ℤ) → k ≤ length i.units → IsTrue ((program_of i).is_state k s) → IsStateOf (program_of i) k s
state-of i k s layer test = record { layer = layer; test = test }

-- each decision is 0 or 1
pub decision-few : (i : Instance) (k d : ℕ) → IsInstance i → d < (program_of i).choices k → d < 2
decision-few i k d kept choice = let few = few-choices i k kept in omega arith

-- the row of the layer's variable fits the state
pub row-fits : (i : Instance) (k : ℕ) (s : List ℤ) (d : ℕ) → IsInstance i → IsTrue ((program_of i).is_state k s) →
    IsAllowed (program_of i) k s d → FitsState (row_at (rows_of (length i.units) i.pairs) k) k s
row-fits i k s d kept test allowed =
    let layer : k < length i.units = allowed.layer in
    let has = layer-has i k s kept (state-of i k s (omega arith) test) in
    let row = row-has i k (length s) kept layer has.cells in
    record { entries = row.entries; positive = row.positive; weight = row.weight; rank = has.rank }

-- a row with the words of a state is as long as a state of a layer
pub same-cells : (i : Instance) (k : ℕ) (s out : List ℤ) → IsInstance i → IsTrue ((program_of i).is_state k s) → k < length i.units
    → length out ≡ (program_of i).words → length out ≡ length s
same-cells i k s out kept test layer cells =
    let has = layer-has i k s kept (state-of i k s (omega arith) test) in
    cells ∙ sym has.cells

pub words-over : (n : ℕ) → n ≤ words_of n
words-over zero = omega arith
words-over (suc n) = omega arith

-- and are zero
pub none-before : (i : Instance) (k : ℕ) (s : List ℤ) → IsStateOf (program_of i) k s → take k s ≡ replicate k (pos 0)
none-before i k s state =
    let test = state-is i k s state.test in
    let layer = state.layer in
    zeros-before k s (omega (arith, test.cells, words-over (length i.units))) test.before

-- what the variables and the pairs give at most
pub units-most : (i : Instance) → IsInstance i → units_most i.units ≤ℤ pos (2 ^ 48)
units-most i kept = omega (arith, ints, kept.total, pairs_most-positive i.pairs kept.pairs)

pub pairs-most : (i : Instance) → IsInstance i → pairs_most i.pairs ≤ℤ pos (2 ^ 48)
pairs-most i kept = omega (arith, ints, kept.total, units_most-positive i.units kept.units)

-- the weight of the pairs from a layer on, as it stands in memory
pub later-read : (i : Instance) (later : List ℤ) (k : ℕ) (d : ℤ) → later ≡ later_totals (rows_of (length i.units) i.pairs) → k ≤ length i.units →
    get_or later k d ≡ rows_most (drop k (rows_of (length i.units) i.pairs))
later-read i later k d is layer =
    rw is (later_totals-at (rows_of (length i.units) i.pairs) k d (omega (arith, length-rows_of (length i.units) i.pairs)))

pub later-count : (i : Instance) (later : List ℤ) → later ≡ later_totals (rows_of (length i.units) i.pairs) → length later ≡ length i.units + 1
later-count i later is =
    ap length is ∙ (length-later_totals (rows_of (length i.units) i.pairs) ∙ ap (λ n. n + 1) (length-rows_of (length i.units) i.pairs))

-- the sums that are made

-- the constant and the lesser numbers are read as they are
pub record RootValueReads (constant lesser : ℤ) : Type 0 where
  pub fits : FitsSigned w64 (to_z w64 (of_z w64 constant) +ℤ to_z w64 (of_z w64 lesser))
  pub is : to_z w64 (of_z w64 (to_z w64 (of_z w64 constant) +ℤ to_z w64 (of_z w64 lesser))) ≡ constant +ℤ lesser

pub root-value-reads : (i : Instance) (lesser : ℤ) → IsInstance i → lesser ≡ lesser_units i.units → RootValueReads i.constant lesser
root-value-reads i lesser kept is =
    let low = lesser_units-positive i.units kept.units in
    let most = lesser_units-most i.units kept.units in
    let pairs = pairs_most-positive i.pairs kept.pairs in
    let constant_read = to_z-of_z w64 i.constant (omega (arith, ints, kept.low, kept.high)) in
    let lesser_read = to_z-of_z w64 lesser (omega (arith, ints, kept.total)) in
    let fits : FitsSigned w64 (i.constant +ℤ lesser) = omega (arith, ints, kept.low, kept.high, kept.total) in
    record { fits = rw (constant_read, lesser_read) fits; is = rw (constant_read, lesser_read) (to_z-of_z w64 (i.constant +ℤ lesser) fits) }

pub rough-adds : (i : Instance) (k : ℕ) (s laters : List ℤ) (rank later : ℤ) → IsInstance i → IsStateOf (program_of i) k s →
    laters ≡ later_totals (rows_of (length i.units) i.pairs) → rank ≡ rank_of (drop k s) → later ≡ get_or laters k later →
    PartsAdd (rank_of (drop k s) +ℤ rows_most (drop k (rows_of (length i.units) i.pairs))) rank later
rough-adds i k s laters rank later kept state summed rank_is later_is =
    let has = layer-has i k s kept state in
    let there : later ≡ rows_most (drop k (rows_of (length i.units) i.pairs)) = later_is ∙ later-read i laters k later summed state.layer in
    let low = rank_of-positive (drop k s) in
    parts-add _ rank later (omega (arith, ints)) (omega (arith, ints)) (omega (arith, ints, has.later_low)) (omega (arith, ints, has.rough))

-- the test of a state, part by part

pub state-then : (i : Instance) (k : ℕ) (s : List ℤ) (zero_front within : Bool) → length s ≡ words_of (length i.units) → zero_front ≡ true → zero_front ≡ all_zero (take k s) →
    within ≡ are_within (drop k s) (limits_at i.units i.pairs k) → within ≡ is_state_of i k s
state-then i k s zero_front within cells yes_front is within_is =
    let counted : (length s == words_of (length i.units)) ≡ true = eq-eqb (length s) (words_of (length i.units)) cells in
    let front : all_zero (take k s) ≡ true = sym is ∙ yes_front in
    rw (counted, front) within_is

pub state-else : (i : Instance) (k : ℕ) (s : List ℤ) (zero_front : Bool) → length s ≡ words_of (length i.units) → zero_front ≡ false → zero_front ≡ all_zero (take k s) →
    zero_front ≡ is_state_of i k s
state-else i k s zero_front cells no_front is =
    let counted : (length s == words_of (length i.units)) ≡ true = eq-eqb (length s) (words_of (length i.units)) cells in
    let front : all_zero (take k s) ≡ false = sym is ∙ no_front in
    rw (counted, front) no_front
