-- Rows that are written whole.
use Rattle.std.proofs.Common.{◌≡◌, ◌≢◌, ℕ, ◌+◌, ◌*◌, ◌/◌, ◌%◌, ◌^◌, ◌<◌, ◌≤◌, ℤ, pos, Bool, true, false, cond, not, ◌&&◌, ◌||◌, nat_eq, nat_lt, List, length, get_or, set, refl, sym, ap, ap₂, ◌∙◌, arith, inl, inr, bit_and, bit_or, eq-eqb, below_more, get_or-set_same, get_or-set_other, length-set}
use Rattle.std.specs.Int.{bit_not, w32}
use Rattle.std.proofs.lemmas.Bool.{cases_eq, cases_lt, false≢true, ne_eqb, lt-ltb, le-ltb}
use Rattle.std.proofs.lemmas.List.{ext_get_or}
use Rattle.std.proofs.lemmas.Nat.Bits.{bit_at_set_same, bit_at_set_other}
use Rattle.node_sets.specs.Sets.{AreWords, HasMembers, row_word, has, row_of}
use Rattle.node_sets.specs.declared.pairing.Pairing.TheVariants.{Difference}
use Rattle.node_sets.proofs.Bits.{on, on_zero, on_or, same_word}
use Rattle.node_sets.proofs.Words.{has_in, cell_is, row_word-lt, AreWords-set}
use Rattle.node_sets.proofs.Pairings.{made_bits, made_small}
use Rattle.node_sets.proofs.Changes.{changed_members}
use Rattle.node_sets.proofs.Made.{length-row_of, AreWords-row_of, has-row_of, row_is}

-- one more of the numbers below a limit
pub below_one_more : (row now : List ℤ) (v : ℕ) → ((u : ℕ) → has row u ≡ nat_lt u v) → ((u : ℕ) → has now u ≡ (has row u || nat_eq u v)) → (u : ℕ) → has now u ≡ nat_lt u (v + 1)
below_one_more row now v h g u =
    g u ∙ ap (λ b. b || nat_eq u v) (h u) ∙ elim (cases_lt u v) [
      | inl l ↦ ap (λ a. a || nat_eq u v) (lt-ltb u v l) ∙ sym (lt-ltb u (v + 1) (omega arith))
      | inr l ↦ (elim (cases_eq u v) [
        | inl s ↦ ap₂ ◌||◌ (le-ltb u v l) (eq-eqb u v s) ∙ sym (lt-ltb u (v + 1) (omega arith))
        | inr s ↦ ap₂ ◌||◌ (le-ltb u v l) (ne_eqb u v s) ∙ sym (le-ltb u (v + 1) (omega arith))
      ])
    ]

-- one more number
pub others_more : (row now : List ℤ) (v : ℕ) → 1 ≤ v → ((u : ℕ) → has row u ≡ (nat_lt u v && not (nat_eq u 0))) → ((u : ℕ) → has now u ≡ (has row u || nat_eq u v)) → (u : ℕ) → has now u ≡ (nat_lt u (v + 1) && not (nat_eq u 0))
others_more row now v some h g u =
    g u ∙ ap (λ b. b || nat_eq u v) (h u) ∙ elim (cases_lt u v) [
      | inl l ↦ ap₂ (λ a b. (a && not (nat_eq u 0)) || b) (lt-ltb u v l) (ne_eqb u v (omega arith)) ∙ keep (not (nat_eq u 0)) ∙ ap (λ a. a && not (nat_eq u 0)) (sym (lt-ltb u (v + 1) (omega arith)))
      | inr l ↦ (elim (cases_eq u v) [
        | inl s ↦ ap₂ (λ a b. (a && not (nat_eq u 0)) || b) (le-ltb u v l) (eq-eqb u v s) ∙ sym (ap₂ (λ a b. a && not b) (lt-ltb u (v + 1) (omega arith)) (ne_eqb u 0 (omega arith)))
        | inr s ↦ ap₂ (λ a b. (a && not (nat_eq u 0)) || b) (le-ltb u v l) (ne_eqb u v s) ∙ ap (λ a. a && not (nat_eq u 0)) (sym (le-ltb u (v + 1) (omega arith)))
      ])
    ]
  where
    keep : (x : Bool) → ((true && x) || false) ≡ (true && x)
    keep true = refl
    keep false = refl

-- only 0 is below 1
pub others_none : (row : List ℤ) → ((u : ℕ) → has row u ≡ false) → (u : ℕ) → has row u ≡ (nat_lt u 1 && not (nat_eq u 0))
others_none row h u =
    h u ∙ elim (cases_eq u 0) [
      | inl s ↦ sym (ap₂ (λ a b. a && not b) (lt-ltb u 1 (omega arith)) (eq-eqb u 0 s))
      | inr s ↦ sym (ap (λ a. a && not (nat_eq u 0)) (le-ltb u 1 (omega arith)))
    ]

pub one_is : (none same : Bool) → none ≡ false → (none || same) ≡ same
one_is true same e = absurd (false≢true (sym e))
one_is false same e = refl

-- ---- sets that are written word by word

-- the words below the i-th are those of the row
abbrev pub IsWritten : List ℤ → List ℤ → ℕ → Type 0
IsWritten row now i = (k : ℕ) → k < i → get_or now k (pos 0) ≡ get_or row k (pos 0)

cell_written : (words i w : ℕ) (test : ℕ → Bool) → i < words → w < 2 ^ 32 → ((j : ℕ) → j < 32 → on w j ≡ test (32 * i + j)) → pos w ≡ get_or (row_of words test) i (pos 0)
cell_written words i w test l p bits =
    ap pos (same_word w (row_word (row_of words test) i) p (row_word-lt (row_of words test) i (AreWords-row_of words test))
    (λ j m. bits j m ∙ sym (has-row_of words test (32 * i + j) (omega arith)) ∙ sym (has_in (row_of words test) i j m)))
    ∙ sym (cell_is (row_of words test) i (AreWords-row_of words test))

pub written_more : (words : ℕ) (test : ℕ → Bool) (now : List ℤ) (i w : ℕ) → IsWritten (row_of words test) now i → i < length now → i < words → w < 2 ^ 32 → ((j : ℕ) → j < 32 → on w j ≡ test (32 * i + j)) → IsWritten (row_of words test) (set now i (pos w)) (i + 1)
written_more words test now i w h l m p bits =
    below_more _ _
    (λ k n. get_or-set_other now i k (pos w) (pos 0) (omega arith) ∙ h k n)
    (get_or-set_same now i (pos w) (pos 0) l ∙ cell_written words i w test m p bits)

-- a word of a set without the number of another word
pub without_more : (words v : ℕ) (from now : List ℤ) (i a b : ℕ) → AreWords from → IsWritten (row_of words (λ u. has from u && not (nat_eq u v))) now i → i < length now → i < words → a ≡ row_word from i → b < 2 ^ 32 → ((j : ℕ) → j < 32 → on b j ≡ nat_eq (32 * i + j) v) → IsWritten (row_of words (λ u. has from u && not (nat_eq u v))) (set now i (pos (bit_and a (bit_not w32 b)))) (i + 1)
without_more words v from now i a b cells h l m e p bits =
    written_more words (λ u. has from u && not (nat_eq u v)) now i (bit_and a (bit_not w32 b)) h l m
    (made_small Difference a b (rw e (row_word-lt from i cells)) p)
    (λ j n. made_bits Difference a b j p n ∙ ap₂ (λ x y. x && not y) (ap (λ x. on x j) e ∙ has_in from i j n) (bits j n))

pub written_all : (words : ℕ) (test : ℕ → Bool) (now : List ℤ) (i : ℕ) → length now ≡ words → words ≤ i → IsWritten (row_of words test) now i → now ≡ row_of words test
written_all words test now i l all h =
    ext_get_or (pos 0) now (row_of words test) (l ∙ sym (length-row_of words test)) (λ k m. h k (omega arith))

-- the only bit of the word of a number
pub bit_of_one : (v i j : ℕ) → i ≡ v / 32 → j < 32 → on (1 * 2 ^ (v % 32) % 2 ^ 32) j ≡ nat_eq (32 * i + j) v
bit_of_one v i j e l =
    ap (λ b. b || on (1 * 2 ^ (v % 32) % 2 ^ 32) j) (sym (on_zero j)) ∙ sym (on_or 0 (1 * 2 ^ (v % 32) % 2 ^ 32) j) ∙ elim (cases_eq j (v % 32)) [
      | inl s ↦ ap (on (bit_or 0 (1 * 2 ^ (v % 32) % 2 ^ 32))) s ∙ ap (λ x. nat_eq x 1) (bit_at_set_same w32 0 (v % 32) (omega arith)) ∙ sym (eq-eqb (32 * i + j) v (omega arith))
      | inr n ↦ ap (λ x. nat_eq x 1) (bit_at_set_other w32 0 (v % 32) (omega arith) j n) ∙ on_zero j ∙ sym (ne_eqb (32 * i + j) v (λ s. n (omega arith)))
    ]

pub bit_of_none : (v i j : ℕ) → i ≢ v / 32 → j < 32 → on 0 j ≡ nat_eq (32 * i + j) v
bit_of_none v i j n l = on_zero j ∙ sym (ne_eqb (32 * i + j) v (λ s. n (omega arith)))

-- a row of which one number was taken out
remove_members : (row : List ℤ) (v a : ℕ) → v < 32 * length row → a ≡ row_word row (v / 32) → a < 2 ^ 32
    → HasMembers (set row (v / 32) (pos (bit_and a (bit_not w32 (1 * 2 ^ (v % 32) % 2 ^ 32))))) (λ u. has row u && not (nat_eq u v))
remove_members row v a l e p u =
    changed_members row v (bit_and a (bit_not w32 (1 * 2 ^ (v % 32) % 2 ^ 32))) false (omega arith)
    (bits (v % 32) (omega arith) ∙ gone (on a (v % 32)) (nat_eq (32 * (v / 32) + v % 32) v) (eq-eqb (32 * (v / 32) + v % 32) v (omega arith)))
    (λ k m n. bits k m ∙ kept (on a k) (nat_eq (32 * (v / 32) + k) v) (ne_eqb (32 * (v / 32) + k) v (λ s. n (omega arith))) ∙ ap (λ x. on x k) e) u
    ∙ without (nat_eq u v) (has row u)
  where
    bits : (j : ℕ) → j < 32 → on (bit_and a (bit_not w32 (1 * 2 ^ (v % 32) % 2 ^ 32))) j ≡ (on a j && not (nat_eq (32 * (v / 32) + j) v))
    bits j n = made_bits Difference a (1 * 2 ^ (v % 32) % 2 ^ 32) j (omega arith) n ∙ ap (λ y. on a j && not y) (bit_of_one v (v / 32) j refl n)

    gone : (x y : Bool) → y ≡ true → (x && not y) ≡ false
    gone true true s = refl
    gone false true s = refl
    gone x false s = absurd (false≢true s)

    kept : (x y : Bool) → y ≡ false → (x && not y) ≡ x
    kept true false s = refl
    kept false false s = refl
    kept x true s = absurd (false≢true (sym s))

    without : (same member : Bool) → cond same false member ≡ (member && not same)
    without true true = refl
    without true false = refl
    without false true = refl
    without false false = refl

pub remove_row : (row now : List ℤ) (v a : ℕ) → AreWords row → v < 32 * length row → a ≡ row_word row (v / 32) → a < 2 ^ 32
    → now ≡ set row (v / 32) (pos (bit_and a (bit_not w32 (1 * 2 ^ (v % 32) % 2 ^ 32)))) → now ≡ row_of (length row) (λ u. has row u && not (nat_eq u v))
remove_row row now v a cells l e p is =
    is ∙ row_is (set row (v / 32) (pos (bit_and a (bit_not w32 (1 * 2 ^ (v % 32) % 2 ^ 32))))) (length row) (λ u. has row u && not (nat_eq u v))
    (AreWords-set row (v / 32) (bit_and a (bit_not w32 (1 * 2 ^ (v % 32) % 2 ^ 32))) cells (made_small Difference a (1 * 2 ^ (v % 32) % 2 ^ 32) p (omega arith)))
    (length-set row (v / 32) _) (remove_members row v a l e p)
