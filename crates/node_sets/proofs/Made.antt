-- A row that is made of the numbers that pass a test.
use Rattle.std.proofs.Common.{◌≡◌, ℕ, zero, suc, ◌+◌, ◌-◌, ◌*◌, ◌/◌, ◌%◌, ◌^◌, ◌<◌, ℤ, Bool, true, false, cond, nat_eq, List, length, refl, sym, ap, ◌∙◌, arith, inl, inr}
use Rattle.std.proofs.lemmas.Bool.{cases_eq}
use Rattle.std.proofs.lemmas.Nat.Bits.{bit_at_cat_low, bit_at_cat_high}
use Rattle.std.proofs.Math.Nat.{pow-suc}
use Rattle.node_sets.specs.Sets.{AreWords, row_word, has, word_of, rows_from, row_of}
use Rattle.node_sets.proofs.Bits.{on}
use Rattle.node_sets.proofs.Words.{has-on, IsWord-pos, same_row}

bit_of : Bool → ℕ
bit_of b = cond b 1 0

word_of-suc : (test : ℕ → Bool) (first k : ℕ) → word_of test first (suc k) ≡ bit_of (test (first + k)) * 2 ^ k + word_of test first k
unfolding word_of bit_of
word_of-suc test first k =
    elim (test (first + k)) as (λ b. word_of test first k + cond b (2 ^ k) 0 ≡ cond b 1 0 * 2 ^ k + word_of test first k) [ true ↦ omega arith | false ↦ omega arith ]

pub word_of-lt : (test : ℕ → Bool) (first k : ℕ) → word_of test first k < 2 ^ k
unfolding word_of
word_of-lt test first zero = omega arith
word_of-lt test first (suc k) =
    let below = word_of-lt test first k in
    let doubled : 2 ^ suc k ≡ 2 ^ k * 2 = pow-suc 2 k in
    elim (test (first + k)) as (λ b. word_of test first k + cond b (2 ^ k) 0 < 2 ^ suc k) [ true ↦ omega (arith, below) | false ↦ omega (arith, below) ]

on_bit : (b : Bool) → on (bit_of b) 0 ≡ b
unfolding bit_of
on_bit true = refl
on_bit false = refl

pub word_of-on : (test : ℕ → Bool) (first k j : ℕ) → j < k → on (word_of test first k) j ≡ test (first + j)
word_of-on test first zero j l = absurd (omega arith)
word_of-on test first (suc k) j l =
    elim (cases_eq j k) [
      | inl e ↦ (let zeroth : j - k ≡ 0 = omega arith in
          ap (λ w. on w j) (word_of-suc test first k) ∙ ap (λ x. nat_eq x 1) (bit_at_cat_high (bit_of (test (first + k))) k (word_of test first k) j (word_of-lt test first k) (omega arith))
          ∙ ap (λ i. on (bit_of (test (first + k))) i) zeroth ∙ on_bit (test (first + k)) ∙ ap (λ i. test (first + i)) (sym e))
      | inr n ↦ ap (λ w. on w j) (word_of-suc test first k) ∙ ap (λ x. nat_eq x 1) (bit_at_cat_low (bit_of (test (first + k))) k (word_of test first k) j (omega arith))
          ∙ word_of-on test first k j (omega arith)
    ]

pub length-rows_from : (words first : ℕ) (test : ℕ → Bool) → length (rows_from words first test) ≡ words
length-rows_from zero first test = refl
length-rows_from (suc words) first test = ap suc (length-rows_from words (first + 32) test)

pub AreWords-rows_from : (words first : ℕ) (test : ℕ → Bool) → AreWords (rows_from words first test)
AreWords-rows_from zero first test i = IsWord-pos 0 (omega arith)
AreWords-rows_from (suc words) first test zero = IsWord-pos (word_of test first 32) (word_of-lt test first 32)
AreWords-rows_from (suc words) first test (suc i) = AreWords-rows_from words (first + 32) test i

row_word-rows_from : (words first i : ℕ) (test : ℕ → Bool) → i < words → row_word (rows_from words first test) i ≡ word_of test (first + 32 * i) 32
unfolding row_word
row_word-rows_from zero first i test l = absurd (omega arith)
row_word-rows_from (suc words) first zero test l = let e : first ≡ first + 32 * 0 = omega arith in ap (λ f. word_of test f 32) e
row_word-rows_from (suc words) first (suc i) test l =
    let e : first + 32 + 32 * i ≡ first + 32 * suc i = omega arith in
    row_word-rows_from words (first + 32) i test (omega arith) ∙ ap (λ f. word_of test f 32) e

pub length-row_of : (words : ℕ) (test : ℕ → Bool) → length (row_of words test) ≡ words
length-row_of words test = length-rows_from words 0 test

pub AreWords-row_of : (words : ℕ) (test : ℕ → Bool) → AreWords (row_of words test)
AreWords-row_of words test = AreWords-rows_from words 0 test

pub has-row_of : (words : ℕ) (test : ℕ → Bool) (v : ℕ) → v < 32 * words → has (row_of words test) v ≡ test v
has-row_of words test v l =
    let e : 0 + 32 * (v / 32) + v % 32 ≡ v = omega arith in
    has-on (row_of words test) v ∙ ap (λ w. on w (v % 32)) (row_word-rows_from words 0 (v / 32) test (omega arith))
    ∙ word_of-on test (0 + 32 * (v / 32)) 32 (v % 32) (omega arith) ∙ ap test e

-- a row of words is the row of its members
pub row_of-is : (words : ℕ) (row : List ℤ) (test : ℕ → Bool) → AreWords row → length row ≡ words → ((v : ℕ) → v < 32 * words → has row v ≡ test v) → row ≡ row_of words test
row_of-is words row test cells l h =
    same_row row (row_of words test) cells (AreWords-row_of words test) (l ∙ sym (length-row_of words test))
    (λ v m. h v (omega arith) ∙ sym (has-row_of words test v (omega arith)))

-- a row of words whose members are those that pass
pub row_is : (row : List ℤ) (words : ℕ) (test : ℕ → Bool) → AreWords row → length row ≡ words → ((v : ℕ) → has row v ≡ test v) → row ≡ row_of words test
row_is row words test cells l h = row_of-is words row test cells l (λ v _. h v)
