-- The words of a row, and its members by them.
use Rattle.std.proofs.Common.{◌≡◌, ◌≢◌, ℕ, Bool, false, ◌+◌, ◌*◌, ◌/◌, ◌%◌, ◌^◌, ◌<◌, ◌≤◌, ℤ, pos, negsuc, nat_abs, List, length, get_or, set, refl, sym, ap, ap₂, ◌∙◌, subst, arith, inl, inr, get_or-set_same, get_or-set_other}
use Rattle.std.proofs.lemmas.Int.{ints}
use Rattle.std.proofs.lemmas.Bool.{cases_eq, cases_lt}
use Rattle.std.proofs.lemmas.List.{get_or_past, ext_get_or, length-set}
use Rattle.node_sets.specs.Sets.{IsWord, AreWords, row_word, has}
use Rattle.node_sets.proofs.Bits.{on, on_zero, none_on, same_word}

pub has-on : (row : List ℤ) (v : ℕ) → has row v ≡ on (row_word row (v / 32)) (v % 32)
unfolding has row_word
has-on row v = refl

pub has_in : (row : List ℤ) (k j : ℕ) → j < 32 → on (row_word row k) j ≡ has row (32 * k + j)
has_in row k j l =
    let quotient : (32 * k + j) / 32 ≡ k = omega arith in
    let rest : (32 * k + j) % 32 ≡ j = omega arith in
    sym (has-on row (32 * k + j) ∙ ap₂ (λ x y. on (row_word row x) y) quotient rest)

word_lt : (z : ℤ) → IsWord z → nat_abs z < 2 ^ 32
word_lt (pos n) w = omega (arith, ints)
word_lt (negsuc n) w = absurd (omega (arith, ints))

word_is : (z : ℤ) → IsWord z → z ≡ pos (nat_abs z)
word_is (pos n) w = refl
word_is (negsuc n) w = absurd (omega (arith, ints))

pub row_word-lt : (row : List ℤ) (i : ℕ) → AreWords row → row_word row i < 2 ^ 32
unfolding row_word
row_word-lt row i w = word_lt (get_or row i (pos 0)) (w i)

pub cell_is : (row : List ℤ) (i : ℕ) → AreWords row → get_or row i (pos 0) ≡ pos (row_word row i)
unfolding row_word
cell_is row i w = word_is (get_or row i (pos 0)) (w i)

pub row_word-past : (row : List ℤ) (i : ℕ) → length row ≤ i → row_word row i ≡ 0
unfolding row_word
row_word-past row i p = ap nat_abs (get_or_past row i (pos 0) p)

pub has-past : (row : List ℤ) (v : ℕ) → length row ≤ v / 32 → has row v ≡ false
has-past row v p = has-on row v ∙ ap (λ w. on w (v % 32)) (row_word-past row (v / 32) p) ∙ on_zero (v % 32)

-- words that are all 0 hold no number that they are the test of
pub none_bad : (t : ℕ → ℕ) (bad : ℕ → Bool) (m : ℕ) → ((v : ℕ) → v / 32 < m → on (t (v / 32)) (v % 32) ≡ bad v) → ((k : ℕ) → k < m → t k ≡ 0) → (v : ℕ) → v / 32 < m → bad v ≡ false
none_bad t bad m bits zeros v l = sym (bits v l) ∙ ap (λ x. on x (v % 32)) (zeros (v / 32) l) ∙ on_zero (v % 32)

-- a word that is not 0 holds some number
pub some_bad : (t : ℕ) (bad : ℕ → Bool) (k : ℕ) → t < 2 ^ 32 → ((j : ℕ) → j < 32 → on t j ≡ bad (32 * k + j)) → t ≢ 0 → ((v : ℕ) → bad v ≡ false) → ⊥
some_bad t bad k p bits n h = n (none_on t p (λ j l. bits j l ∙ h (32 * k + j)))

pub row_word-set_same : (row : List ℤ) (i w : ℕ) → i < length row → row_word (set row i (pos w)) i ≡ w
unfolding row_word
row_word-set_same row i w p = ap nat_abs (get_or-set_same row i (pos w) (pos 0) p)

pub row_word-set_other : (row : List ℤ) (i j w : ℕ) → j ≢ i → row_word (set row i (pos w)) j ≡ row_word row j
unfolding row_word
row_word-set_other row i j w p = ap nat_abs (get_or-set_other row i j (pos w) (pos 0) p)

pub IsWord-pos : (n : ℕ) → n < 2 ^ 32 → IsWord (pos n)
IsWord-pos n p = record { low = omega (arith, ints); high = omega (arith, ints) }

pub AreWords-set : (row : List ℤ) (i w : ℕ) → AreWords row → w < 2 ^ 32 → AreWords (set row i (pos w))
AreWords-set row i w cells p j =
    elim (cases_eq j i) [
      | inl e ↦ (elim (cases_lt i (length row)) [
        | inl l ↦ subst IsWord (sym (ap (λ k. get_or (set row i (pos w)) k (pos 0)) e ∙ get_or-set_same row i (pos w) (pos 0) l)) (IsWord-pos w p)
        | inr l ↦ subst IsWord (sym (get_or_past (set row i (pos w)) j (pos 0) (omega (arith, length-set row i (pos w))))) (IsWord-pos 0 (omega arith))
      ])
      | inr n ↦ subst IsWord (sym (get_or-set_other row i j (pos w) (pos 0) n)) (cells j)
    ]

-- two rows of words of one length with the same members are equal
pub same_row : (a b : List ℤ) → AreWords a → AreWords b → length a ≡ length b → ((v : ℕ) → v < 32 * length a → has a v ≡ has b v) → a ≡ b
same_row a b p q l h =
    ext_get_or (pos 0) a b l (λ i k. cell_is a i p ∙ ap pos (same_word (row_word a i) (row_word b i) (row_word-lt a i p) (row_word-lt b i q) (same i k)) ∙ sym (cell_is b i q))
  where
    same : (i : ℕ) → i < length a → (k : ℕ) → k < 32 → on (row_word a i) k ≡ on (row_word b i) k
    same i k j m = has_in a i j m ∙ h (32 * i + j) (omega arith) ∙ sym (has_in b i j m)
