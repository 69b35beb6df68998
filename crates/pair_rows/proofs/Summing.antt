-- Sums of rows.
use Rattle.std.proofs.Common.{◌≡◌, ℕ, suc, ◌+◌, ◌^◌, ◌<◌, ◌≤◌, ℤ, pos, ◌+ℤ◌, ◌-ℤ◌, ◌≤ℤ◌, List, [], ◌∷◌, ◌++◌, length, drop, get_or, refl, arith, ap, sym, ◌∙◌, append_assoc}
use Rattle.std.specs.Prelude.{IsTrue}
use Rattle.std.proofs.lemmas.Int.{ints}
use Rattle.std.proofs.lemmas.List.{drop_more, drop_all}
use Rattle.pair_rows.specs.declared.values.PairValues.{PairValues}
use Rattle.pair_rows.specs.Pairs.{rows_of, row_at, pair_count}
use Rattle.pair_rows.specs.Instance.{pair_most, pairs_most, rows_most, no_pair}
use Rattle.pair_rows.specs.Limits.{PairFits, pairs_fit, pair_fits}
use Rattle.pair_rows.specs.Laws.Pairs.{length-rows_of, length-row_at, drop-rows, all-drop}
use Rattle.pair_rows.specs.Table.{later_totals}
use Rattle.pair_rows.specs.Laws.Totals.{pairs_most-positive, positive-rows_of, positive-row_at, rows_most-rows_of, rows_most-drop, rows_most-positive}
use Rattle.pair_rows.proofs.Cells.{pair-at}
use Rattle.pair_rows.proofs.RunningSums.{SumGrows, sum-grows, sum-done}

pub total-grows : (ps : List PairValues) (i : ℕ) (total cell : ℤ) → i < length ps → IsTrue (pairs_fit ps) → pairs_most ps ≤ℤ pos (2 ^ 48) →
    cell ≡ pair_most (get_or ps i no_pair) → (total +ℤ pairs_most (drop i ps) ≡ pairs_most ps) × (pos 0 ≤ℤ total) → SumGrows (pairs_most ps) (pairs_most (drop (i + 1) ps)) total cell
total-grows ps i total cell h positive weight is before =
    let cut : pairs_most (drop i ps) ≡ pair_most (get_or ps i no_pair) +ℤ pairs_most (drop (i + 1) ps) = ap pairs_most (drop_more ps i no_pair h) in
    let here : PairFits (get_or ps i no_pair) = pair-at ps i no_pair h positive in
    sum-grows (pairs_most ps) (pairs_most (drop i ps)) cell (pairs_most (drop (i + 1) ps)) total (rw is cut)
    (omega (arith, ints, here.no_no, here.no_no_most)) (pairs_most-positive (drop (i + 1) ps) (all-drop pair_fits (i + 1) ps positive)) (omega (arith, ints)) before

pub total-done : (ps : List PairValues) (i : ℕ) (total : ℤ) → length ps ≤ i → total +ℤ pairs_most (drop i ps) ≡ pairs_most ps → total ≡ pairs_most ps
total-done ps i total h before = sum-done (pairs_most ps) (pairs_most (drop i ps)) total (ap pairs_most (drop_all i ps h)) before

-- one layer more

pub record LeftFalls (ps : List PairValues) (n k : ℕ) (left weight : ℤ) : Type 0 where
  pub rest : left -ℤ weight ≡ rows_most (drop (k + 1) (rows_of n ps))
  pub low : pos 0 ≤ℤ left
  pub high : left ≤ℤ pos (2 ^ 48)
  pub weight_low : pos 0 ≤ℤ weight
  pub rest_low : pos 0 ≤ℤ (left -ℤ weight)

pub left-falls : (ps : List PairValues) (n k : ℕ) (row : List PairValues) (left weight : ℤ) → length ps ≡ pair_count n → k < n → IsTrue (pairs_fit ps) → pairs_most ps ≤ℤ pos (2 ^ 48) →
    row ≡ row_at (rows_of n ps) k → weight ≡ pairs_most row → left ≡ rows_most (drop k (rows_of n ps)) → LeftFalls ps n k left weight
left-falls ps n k row left weight whole h positive most is weight_is left_is =
    let rows : List (List PairValues) = rows_of n ps in
    let all = positive-rows_of n ps positive in
    let one : suc k ≡ k + 1 = omega arith in
    let cut : rows_most (drop k rows) ≡ pairs_most (row_at rows k) +ℤ rows_most (drop (suc k) rows) = ap rows_most (drop-rows rows k (omega (arith, length-rows_of n ps))) in
    let next : rows_most (drop (suc k) rows) ≡ rows_most (drop (k + 1) rows) = ap (λ m. rows_most (drop m rows)) one in
    let there : weight ≡ pairs_most (row_at rows k) = weight_is ∙ ap pairs_most is in
    let later = rows_most-positive (drop (k + 1) rows) (all-drop pairs_fit (k + 1) rows all) in
    let here = pairs_most-positive (row_at rows k) (positive-row_at rows k all) in
    let front = rows_most-drop rows k all in
    let sums = rows_most-rows_of n ps whole in
    record {
      rest = omega (arith, ints);
      low = omega (arith, ints);
      high = omega (arith, ints);
      weight_low = omega (arith, ints);
      rest_low = omega (arith, ints);
    }

pub sums-more : (ps : List PairValues) (n k : ℕ) (items : List ℤ) (left : ℤ) → k < n → left ≡ rows_most (drop k (rows_of n ps)) →
    items ++ later_totals (drop k (rows_of n ps)) ≡ later_totals (rows_of n ps) → (items ++ left ∷ []) ++ later_totals (drop (k + 1) (rows_of n ps)) ≡ later_totals (rows_of n ps)
sums-more ps n k items left h is before =
    let rows : List (List PairValues) = rows_of n ps in
    let one : suc k ≡ k + 1 = omega arith in
    let cut : drop k rows ≡ row_at rows k ∷ drop (suc k) rows = drop-rows rows k (omega (arith, length-rows_of n ps)) in
    let first : later_totals (drop k rows) ≡ rows_most (drop k rows) ∷ later_totals (drop (suc k) rows) = rw cut refl in
    let split : items ++ (left ∷ later_totals (drop (suc k) rows)) ≡ later_totals rows = rw is (rw first at before) in
    append_assoc items (left ∷ []) (later_totals (drop (k + 1) rows)) ∙ (ap (λ m. items ++ (left ∷ later_totals (drop m rows))) (sym one) ∙ split)

pub sums-done : (ps : List PairValues) (n k : ℕ) (items : List ℤ) (left : ℤ) → n ≤ k → left ≡ rows_most (drop k (rows_of n ps)) →
    items ++ later_totals (drop k (rows_of n ps)) ≡ later_totals (rows_of n ps) → items ++ left ∷ [] ≡ later_totals (rows_of n ps)
sums-done ps n k items left h is before =
    let none : drop k (rows_of n ps) ≡ [] = drop_all k (rows_of n ps) (omega (arith, length-rows_of n ps)) in
    let zero_left : left ≡ pos 0 = rw none at is in
    rw zero_left (rw none at before)

-- the row of a variable among all pairs
pub record RowThere (ps : List PairValues) (n k : ℕ) (row : List PairValues) : Type 0 where
  pub entries : length row + suc k ≡ n
  pub positive : IsTrue (pairs_fit row)
  pub weight : pairs_most row ≤ℤ pairs_most ps

pub row-there : (ps : List PairValues) (n k : ℕ) (row : List PairValues) → length ps ≡ pair_count n → k < n → IsTrue (pairs_fit ps) → row ≡ row_at (rows_of n ps) k → RowThere ps n k row
row-there ps n k row whole h positive is =
    let rows : List (List PairValues) = rows_of n ps in
    let all = positive-rows_of n ps positive in
    let rest : rows_most (drop k rows) ≡ pairs_most (row_at rows k) +ℤ rows_most (drop (suc k) rows) = rw (drop-rows rows k (omega (arith, length-rows_of n ps))) refl in
    let later = rows_most-positive (drop (suc k) rows) (all-drop pairs_fit (suc k) rows all) in
    let front = rows_most-drop rows k all in
    record {
      entries = omega (arith, ap length is, length-row_at n ps k whole h);
      positive = rw is (positive-row_at rows k all);
      weight = rw is (omega (arith, ints, rows_most-rows_of n ps whole));
    }
