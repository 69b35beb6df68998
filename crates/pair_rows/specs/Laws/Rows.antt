-- What holds of the rows of pairs, and of the rows that a step makes.
use Rattle.std.specs.Prelude.{◌≡◌, ℕ, zero, suc, ◌+◌, ◌<◌, ℤ, pos, List, [], ◌∷◌, ◌++◌, length, take, drop, refl}
use Rattle.std.proofs.Common.{arith, sym, ◌∙◌, ap}
use Rattle.std.proofs.Math.Seq.{drop-cons, drop-append-add}
use Rattle.std.proofs.lemmas.List.{length-take-le, length-append, length-drop}
use Rattle.pair_rows.specs.declared.values.PairValues.{PairValues}
use Rattle.pair_rows.specs.Program.{grown, row_step, words_of}

pub length-grown : (ps : List PairValues) (ts : List ℤ) (d : ℕ) → length ps ≡ length ts → length (grown ps ts d) ≡ length ts
length-grown [] [] d e = refl
length-grown [] (t ∷ ts) d e = absurd (omega arith)
length-grown (p ∷ ps) [] d e = absurd (omega arith)
length-grown (p ∷ ps) (t ∷ ts) d e = omega (arith, length-grown ps ts d (omega arith))

-- where there is a layer, a state has a word for each variable
pub words_of-some : (n k : ℕ) → k < n → words_of n ≡ n
words_of-some zero k h = absurd (omega arith)
words_of-some (suc n) k h = refl

-- a step keeps the row's length
pub length-step : (row : List PairValues) (s : List ℤ) (k d : ℕ) → k < length s → length row + suc k ≡ length s →
    length (take k s ++ row_step row (drop k s) d) ≡ length s
length-step row s k d h e =
    let cut = drop-cons s k (pos 0) h in
    let front = length-take-le k s (omega arith) in
    let back = length-drop (suc k) s in
    let later = length-grown row (drop (suc k) s) d (omega arith) in
    rw cut (omega (arith, length-append (take k s) (pos 0 ∷ grown row (drop (suc k) s) d)))

-- after the decided variable a step leaves what the benefits have grown to
pub drop-step : (row : List PairValues) (s : List ℤ) (k d : ℕ) → k < length s →
    drop (k + 1) (take k s ++ row_step row (drop k s) d) ≡ grown row (drop (suc k) s) d
drop-step row s k d h =
    let cut = drop-cons s k (pos 0) h in
    let front = length-take-le k s (omega arith) in
    let at = drop-append-add (take k s) (pos 0 ∷ grown row (drop (suc k) s) d) 1 in
    rw cut (ap (λ n. drop (n + 1) (take k s ++ pos 0 ∷ grown row (drop (suc k) s) d)) (sym front) ∙ at)
