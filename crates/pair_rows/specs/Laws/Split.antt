-- The gain of a continuation splits into what each variable gains from its benefit and what each pair of variables gives.
use Rattle.std.specs.Prelude.{◌≡◌, ℕ, zero, suc, ◌+◌, ◌<◌, ℤ, pos, ◌+ℤ◌, ◌-ℤ◌, List, [], ◌∷◌, ◌++◌, length, take, drop, refl}
use Rattle.std.proofs.Common.{arith, ap, get_or, add-one}
use Rattle.std.proofs.Math.Seq.{drop-cons}
use Rattle.std.proofs.lemmas.Int.{ints}
use Rattle.std.proofs.lemmas.List.{length-drop}
use Rattle.std.specs.Int.{int_min}
use Rattle.benefit_rows.specs.Benefits.{above_zero, below_zero, choice_gain, gains_of}
use Rattle.benefit_rows.specs.BenefitLaws.{above_less_below, lesser_above, lesser_below}
use Rattle.dp_model.specs.Prefixes.{gain_of}
use Rattle.pair_rows.specs.declared.values.PairValues.{PairValues}
use Rattle.pair_rows.specs.Pairs.{rows_of, row_at, pair_count}
use Rattle.pair_rows.specs.Instance.{Instance}
use Rattle.pair_rows.specs.OwnWords.{pair_value, row_value, rows_value}
use Rattle.pair_rows.specs.Program.{cell_part, given_yes, given_no, grown, shared_gain, row_gain, row_step, words_of, program_of}
use Rattle.pair_rows.specs.Laws.Pairs.{length-rows_of, length-row_at, drop-rows}
use Rattle.pair_rows.specs.Laws.Rows.{words_of-some, length-step, drop-step}

-- the lesser of the two sides of a later variable, by what its benefit is after the decision
pub record Sides (p : PairValues) (t : ℤ) (d : ℕ) : Type 0 where
  pub if_true : int_min (above_zero t +ℤ given_yes p d) (below_zero t +ℤ given_no p d) +ℤ above_zero (t +ℤ (given_yes p d -ℤ given_no p d)) ≡ above_zero t +ℤ given_yes p d
  pub if_false : int_min (above_zero t +ℤ given_yes p d) (below_zero t +ℤ given_no p d) +ℤ below_zero (t +ℤ (given_yes p d -ℤ given_no p d)) ≡ below_zero t +ℤ given_no p d

pub sides_of : (p : PairValues) (t : ℤ) (d : ℕ) → Sides p t d
sides_of p t d =
    let apart : (above_zero t +ℤ given_yes p d) -ℤ (below_zero t +ℤ given_no p d) ≡ t +ℤ (given_yes p d -ℤ given_no p d) = omega (arith, ints, above_less_below t) in
    record { if_true = lesser_above _ _ _ apart; if_false = lesser_below _ _ _ apart }

-- one pair: the lesser of its two sides is given in any case, and the rest is the second variable's benefit
pub cell_split : (p : PairValues) (t : ℤ) (d y : ℕ) →
    choice_gain t y +ℤ pair_value p d y ≡
    cell_part p t d +ℤ choice_gain (t +ℤ (given_yes p d -ℤ given_no p d)) y
cell_split p t d zero = let sides = sides_of p t d in omega (arith, ints)
cell_split p t d (suc y) = let sides = sides_of p t d in omega (arith, ints)

pub row_split : (ps : List PairValues) (ts : List ℤ) (d : ℕ) (ys : List ℕ) → length ps ≡ length ts → length ys ≡ length ts →
    gains_of ts ys +ℤ row_value ps d ys ≡ shared_gain ps ts d +ℤ gains_of (grown ps ts d) ys
row_split [] [] d ys e f = refl
row_split [] (t ∷ ts) d ys e f = absurd (omega arith)
row_split (p ∷ ps) [] d ys e f = absurd (omega arith)
row_split (p ∷ ps) (t ∷ ts) d [] e f = absurd (omega arith)
row_split (p ∷ ps) (t ∷ ts) d (y ∷ ys) e f = let cell = cell_split p t d y in omega (arith, ints, row_split ps ts d ys (omega arith) (omega arith))

gains_of-none : (ts : List ℤ) → gains_of ts [] ≡ pos 0
gains_of-none [] = refl
gains_of-none (t ∷ ts) = refl

rows_value-none : (rows : List (List PairValues)) → rows_value rows [] ≡ pos 0
rows_value-none [] = refl
rows_value-none (row ∷ rows) = refl

-- the gain of a continuation: what the variables gain from their benefits, and the satisfied weight of the pairs from the layer on
pub gain_split : (i : Instance) (k : ℕ) (s : List ℤ) (c : List ℕ) →
    length i.pairs ≡ pair_count (length i.units) → length s ≡ words_of (length i.units) → k + length c ≡ length i.units →
    gain_of (program_of i) k s c ≡ gains_of (drop k s) c +ℤ rows_value (drop k (rows_of (length i.units) i.pairs)) c
gain_split i k s [] whole cells ends = omega (arith, ints, gains_of-none (drop k s), rows_value-none (drop k (rows_of (length i.units) i.pairs)))
gain_split i k s (d ∷ ds) whole cells ends =
    let rows : List (List PairValues) = rows_of (length i.units) i.pairs in
    let row : List PairValues = row_at rows k in
    let layer : k < length i.units = omega arith in
    let words = words_of-some (length i.units) k layer in
    let below : k < length s = omega arith in
    let entries = length-row_at (length i.units) i.pairs k whole layer in
    let left = length-drop (suc k) s in
    let cut : drop k s ≡ get_or s k (pos 0) ∷ drop (suc k) s = drop-cons s k (pos 0) below in
    let rest = drop-rows rows k (omega (arith, length-rows_of (length i.units) i.pairs)) in
    let here : row_gain row (drop k s) d ≡ choice_gain (get_or s k (pos 0)) d +ℤ shared_gain row (drop (suc k) s) d = rw cut refl in
    let next : List ℤ = take k s ++ row_step row (drop k s) d in
    let after : gains_of (drop (k + 1) next) ds ≡ gains_of (grown row (drop (suc k) s) d) ds = ap (λ ts. gains_of ts ds) (drop-step row s k d below) in
    let benefits : gains_of (drop k s) (d ∷ ds) ≡ choice_gain (get_or s k (pos 0)) d +ℤ gains_of (drop (suc k) s) ds = rw cut refl in
    let pairs : rows_value (drop k rows) (d ∷ ds) ≡ row_value row d ds +ℤ rows_value (drop (suc k) rows) ds = rw rest refl in
    let same : rows_value (drop (k + 1) rows) ds ≡ rows_value (drop (suc k) rows) ds = rw add-one refl in
    let later = gain_split i (k + 1) next ds whole (omega (arith, length-step row s k d below (omega arith))) (omega arith) in
    omega (arith, ints, row_split row (drop (suc k) s) d ds (omega arith) (omega arith))
