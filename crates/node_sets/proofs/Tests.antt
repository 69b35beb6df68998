-- What the words of a row tell of its members.
use Rattle.std.proofs.Common.{◌≡◌, ◌≢◌, ℕ, ◌+◌, ◌-◌, ◌*◌, ◌/◌, ◌%◌, ◌^◌, ◌<◌, ◌≤◌, ℤ, Bool, true, false, not, ◌&&◌, ◌||◌, List, length, refl, sym, ap, ap₂, ◌∙◌, subst, arith, inl, inr, bit_and, bit_or}
use Rattle.std.specs.Int.{bit_not, w32, trailing_zeros}
use Rattle.std.proofs.lemmas.Bool.{cases_lt, false≢true}
use lib.Bits.{or_lt, and_lt}
use Rattle.node_sets.specs.Sets.{AreWords, IsLeastFrom, row_word, has}
use Rattle.node_sets.specs.declared.pairing.Pairing.TheVariants.{Difference}
use Rattle.node_sets.proofs.Bits.{on, on_zero, on_or, on_shr, on_above, lowest_on}
use Rattle.node_sets.proofs.Words.{has-on, has_in, has-past, some_bad, row_word-lt}
use Rattle.node_sets.proofs.Pairings.{made_bits}

-- is_empty

pub empty_all : (row : List ℤ) (i : ℕ) → length row ≤ i → ((k : ℕ) → k < i → row_word row k ≡ 0) → (v : ℕ) → has row v ≡ false
empty_all row i l zeros v =
    elim (cases_lt (v / 32) i) [
      | inl m ↦ has-on row v ∙ ap (λ w. on w (v % 32)) (zeros (v / 32) m) ∙ on_zero (v % 32)
      | inr m ↦ has-past row v (omega arith)
    ]

pub empty_not : (row : List ℤ) (i a : ℕ) → AreWords row → a ≡ row_word row i → a ≢ 0 → ((v : ℕ) → has row v ≡ false) → ⊥
empty_not row i a cells e n h = some_bad (row_word row i) (has row) i (row_word-lt row i cells) (has_in row i) (λ z. n (e ∙ z)) h

-- what the tests of two sets say

pub outside : (x y : Bool) → (x ≡ true → y ≡ true) → (x && not y) ≡ false
outside true true h = refl
outside true false h = absurd (false≢true (h refl))
outside false true h = refl
outside false false h = refl

pub within : (x y : Bool) → (x && not y) ≡ false → x ≡ true → y ≡ true
within true true e p = refl
within true false e p = absurd (false≢true (sym e))
within false y e p = absurd (false≢true p)

pub apart : (x y : Bool) → (x && y) ≡ false → x ≡ true → y ≡ false
apart true true e p = absurd (false≢true (sym e))
apart true false e p = refl
apart false y e p = absurd (false≢true p)

pub both_not : (x y : Bool) → (x ≡ true → y ≡ false) → (x && y) ≡ false
both_not true true h = absurd (false≢true (sym (h refl)))
both_not true false h = refl
both_not false true h = refl
both_not false false h = refl

-- is_union_subset

either : List ℤ → List ℤ → ℕ → ℕ
either a b k = bit_or (row_word a k) (row_word b k)

either-on : (a b : List ℤ) (k j : ℕ) → on (either a b k) j ≡ on (row_word a k) j || on (row_word b k) j
unfolding either
either-on a b k j = on_or (row_word a k) (row_word b k) j

either-lt : (a b : List ℤ) (k : ℕ) → AreWords a → AreWords b → either a b k < 2 ^ 32
unfolding either
either-lt a b k p q = or_lt 32 (row_word a k) (row_word b k) (row_word-lt a k p) (row_word-lt b k q)

pub union_all : (one two wide more : List ℤ) (i : ℕ) → AreWords wide → AreWords more → length one ≡ length two → length one ≤ i → ((k : ℕ) → k < i → bit_and (bit_or (row_word one k) (row_word two k)) (bit_not w32 (bit_or (row_word wide k) (row_word more k))) ≡ 0) → (v : ℕ) → (has one v || has two v) ≡ true → (has wide v || has more v) ≡ true
unfolding either
union_all one two wide more i p q same l zeros v =
    elim (cases_lt (v / 32) i) [
      | inl m ↦ within (has one v || has two v) (has wide v || has more v)
          (ap₂ (λ x y. x && not y) (ap₂ ◌||◌ (has-on one v) (has-on two v) ∙ sym (either-on one two (v / 32) (v % 32))) (ap₂ ◌||◌ (has-on wide v) (has-on more v) ∙ sym (either-on wide more (v / 32) (v % 32)))
          ∙ sym (made_bits Difference (either one two (v / 32)) (either wide more (v / 32)) (v % 32) (either-lt wide more (v / 32) p q) (omega arith))
          ∙ ap (λ w. on w (v % 32)) (zeros (v / 32) m) ∙ on_zero (v % 32))
      | inr m ↦ (λ h. absurd (false≢true (sym (ap₂ ◌||◌ (has-past one v (omega arith)) (has-past two v (omega arith))) ∙ h)))
    ]

pub union_not : (one two wide more : List ℤ) (i a b c d : ℕ) → AreWords one → AreWords two → AreWords wide → AreWords more → a ≡ row_word one i → b ≡ row_word two i → c ≡ row_word wide i → d ≡ row_word more i → bit_and (bit_or a b) (bit_not w32 (bit_or c d)) ≢ 0 → ((v : ℕ) → (has one v || has two v) ≡ true → (has wide v || has more v) ≡ true) → ⊥
unfolding either
union_not one two wide more i a b c d p q r s ea eb ec ed n h =
    some_bad (bit_and (either one two i) (bit_not w32 (either wide more i))) (λ v. (has one v || has two v) && not (has wide v || has more v)) i
    (and_lt 32 (either one two i) (bit_not w32 (either wide more i)) (either-lt one two i p q) (omega arith))
    (λ j l. made_bits Difference (either one two i) (either wide more i) j (either-lt wide more i r s) l
    ∙ ap₂ (λ x y. x && not y) (either-on one two i j ∙ ap₂ ◌||◌ (has_in one i j l) (has_in two i j l)) (either-on wide more i j ∙ ap₂ ◌||◌ (has_in wide i j l) (has_in more i j l)))
    (λ z. n (ap₂ (λ x y. bit_and x (bit_not w32 y)) (ap₂ bit_or ea eb) (ap₂ bit_or ec ed) ∙ z))
    (λ v. outside (has one v || has two v) (has wide v || has more v) (h v))

-- next_of_either: what words tell of the numbers whose bits they hold

module _ (test : ℕ → Bool) (words : ℕ → ℕ) (bits : (v : ℕ) → test v ≡ on (words (v / 32)) (v % 32)) where
  bit_at_place : (i j : ℕ) → j < 32 → test (32 * i + j) ≡ on (words i) j
  bit_at_place i j l =
      let quotient : (32 * i + j) / 32 ≡ i = omega arith in
      let rest : (32 * i + j) % 32 ≡ j = omega arith in
      bits (32 * i + j) ∙ ap₂ (λ x y. on (words x) y) quotient rest

  pub none_from_first : (from a : ℕ) → a ≡ words (from / 32) → a / 2 ^ (from % 32) ≡ 0 → (v : ℕ) → from ≤ v → v < 32 * (from / 32 + 1) → test v ≡ false
  none_from_first from a e z v low high =
      let quotient : v / 32 ≡ from / 32 = omega arith in
      let rest : v % 32 ≡ from % 32 + (v - from) = omega arith in
      bits v ∙ ap₂ (λ x y. on (words x) y) quotient rest ∙ ap (λ w. on w (from % 32 + (v - from))) (sym e) ∙ sym (on_shr a (from % 32) (v - from))
      ∙ ap (λ w. on w (v - from)) z ∙ on_zero (v - from)

  pub next_from_first : (from a : ℕ) → a ≡ words (from / 32) → a < 2 ^ 32 → a / 2 ^ (from % 32) < 2 ^ 32 → 0 < a / 2 ^ (from % 32) → (from % 32 + trailing_zeros w32 (a / 2 ^ (from % 32)) < 32) × IsLeastFrom test from (from + trailing_zeros w32 (a / 2 ^ (from % 32)))
  next_from_first from a e p q z =
      let t = trailing_zeros w32 (a / 2 ^ (from % 32)) in
      let low = lowest_on (a / 2 ^ (from % 32)) z q in
      let within_word : from % 32 + t < 32 = elim (cases_lt (from % 32 + t) 32) [
        | inl l ↦ l
        | inr m ↦ absurd (false≢true (sym (on_above a 32 (from % 32 + t) p m) ∙ sym (on_shr a (from % 32) t) ∙ low.1))
      ] in (
        within_word,
        record {
          reached = omega arith;
          passes = at_place t within_word ∙ low.1;
          skipped = λ u l m. subst (λ x. test x ≡ false) (omega arith) (at_place (u - from) (omega arith) ∙ low.2 (u - from) (omega arith));
        },
      )
    where
      at_place : (k : ℕ) → from % 32 + k < 32 → test (from + k) ≡ on (a / 2 ^ (from % 32)) k
      at_place k l =
          let quotient : (from + k) / 32 ≡ from / 32 = omega arith in
          let rest : (from + k) % 32 ≡ from % 32 + k = omega arith in
          bits (from + k) ∙ ap₂ (λ x y. on (words x) y) quotient rest ∙ ap (λ w. on w (from % 32 + k)) (sym e) ∙ sym (on_shr a (from % 32) k)

  pub none_from_word : (from i a : ℕ) → a ≡ words i → a ≡ 0 → ((v : ℕ) → from ≤ v → v < 32 * i → test v ≡ false) → (v : ℕ) → from ≤ v → v < 32 * (i + 1) → test v ≡ false
  none_from_word from i a e z before v low high =
      elim (cases_lt v (32 * i)) [
        | inl l ↦ before v low l
        | inr m ↦
            let quotient : v / 32 ≡ i = omega arith in
            bits v ∙ ap (λ x. on (words x) (v % 32)) quotient ∙ ap (λ w. on w (v % 32)) (sym e ∙ z) ∙ on_zero (v % 32)
      ]

  pub next_from_word : (from i a : ℕ) → a ≡ words i → a < 2 ^ 32 → 0 < a → from ≤ 32 * i → ((v : ℕ) → from ≤ v → v < 32 * i → test v ≡ false) → (trailing_zeros w32 a < 32) × IsLeastFrom test from (32 * i + trailing_zeros w32 a)
  next_from_word from i a e p z l before =
      let t = trailing_zeros w32 a in
      let low = lowest_on a z p in (
        low.0,
        record {
          reached = omega arith;
          passes = bit_at_place i t low.0 ∙ ap (λ w. on w t) (sym e) ∙ low.1;
          skipped = λ u m n. elim (cases_lt u (32 * i)) [
            | inl k ↦ before u m k
            | inr k ↦ subst (λ x. test x ≡ false) (omega arith) (bit_at_place i (u - 32 * i) (omega (arith, low.0)) ∙ ap (λ w. on w (u - 32 * i)) (sym e) ∙ low.2 (u - 32 * i) (omega arith))
          ];
        },
      )

-- the members of one row

pub none_in_first : (row : List ℤ) (from a : ℕ) → a ≡ row_word row (from / 32) → a / 2 ^ (from % 32) ≡ 0 → (v : ℕ) → from ≤ v → v < 32 * (from / 32 + 1) → has row v ≡ false
none_in_first row = none_from_first (has row) (row_word row) (has-on row)

pub next_in_first : (row : List ℤ) (from a : ℕ) → a ≡ row_word row (from / 32) → a < 2 ^ 32 → a / 2 ^ (from % 32) < 2 ^ 32 → 0 < a / 2 ^ (from % 32) → (from % 32 + trailing_zeros w32 (a / 2 ^ (from % 32)) < 32) × IsLeastFrom (has row) from (from + trailing_zeros w32 (a / 2 ^ (from % 32)))
next_in_first row = next_from_first (has row) (row_word row) (has-on row)

pub none_in_word : (row : List ℤ) (from i a : ℕ) → a ≡ row_word row i → a ≡ 0 → ((v : ℕ) → from ≤ v → v < 32 * i → has row v ≡ false) → (v : ℕ) → from ≤ v → v < 32 * (i + 1) → has row v ≡ false
none_in_word row = none_from_word (has row) (row_word row) (has-on row)

pub next_in_word : (row : List ℤ) (from i a : ℕ) → a ≡ row_word row i → a < 2 ^ 32 → 0 < a → from ≤ 32 * i → ((v : ℕ) → from ≤ v → v < 32 * i → has row v ≡ false) → (trailing_zeros w32 a < 32) × IsLeastFrom (has row) from (32 * i + trailing_zeros w32 a)
next_in_word row = next_from_word (has row) (row_word row) (has-on row)

pub none_at_end : (row : List ℤ) (from i : ℕ) → length row ≤ i → ((v : ℕ) → from ≤ v → v < 32 * i → has row v ≡ false) → (v : ℕ) → from ≤ v → has row v ≡ false
none_at_end row from i l before v m =
    elim (cases_lt v (32 * i)) [
      | inl k ↦ before v m k
      | inr k ↦ has-past row v (omega arith)
    ]

-- the members of two

either-bits : (one two : List ℤ) (v : ℕ) → (has one v || has two v) ≡ on (either one two (v / 32)) (v % 32)
either-bits one two v = ap₂ ◌||◌ (has-on one v) (has-on two v) ∙ sym (either-on one two (v / 32) (v % 32))

either_is : (one two : List ℤ) (i a b : ℕ) → a ≡ row_word one i → b ≡ row_word two i → bit_or a b ≡ either one two i
unfolding either
either_is one two i a b p q = ap₂ bit_or p q

either_small : (one two : List ℤ) (i a b : ℕ) → AreWords one → AreWords two → a ≡ row_word one i → b ≡ row_word two i → bit_or a b < 2 ^ 32
either_small one two i a b c d p q = subst (λ x. x < 2 ^ 32) (sym (either_is one two i a b p q)) (either-lt one two i c d)

less_shifted : (x k : ℕ) → x < 2 ^ 32 → x / 2 ^ k < 2 ^ 32
less_shifted x k l = omega arith

module _ (one two : List ℤ) (one_cells : AreWords one) (two_cells : AreWords two) where
  pub none_in_first_either : (from a b : ℕ) → a ≡ row_word one (from / 32) → b ≡ row_word two (from / 32) → bit_or a b / 2 ^ (from % 32) ≡ 0 → (v : ℕ) → from ≤ v → v < 32 * (from / 32 + 1) → (has one v || has two v) ≡ false
  none_in_first_either from a b p q zero =
      none_from_first (λ v. has one v || has two v) (either one two) (either-bits one two) from (bit_or a b) (either_is one two (from / 32) a b p q) zero

  pub next_in_first_either : (from a b : ℕ) → a ≡ row_word one (from / 32) → b ≡ row_word two (from / 32) → bit_or a b / 2 ^ (from % 32) ≢ 0
      → (from % 32 + trailing_zeros w32 (bit_or a b / 2 ^ (from % 32)) < 32) × IsLeastFrom (λ v. has one v || has two v) from (from + trailing_zeros w32 (bit_or a b / 2 ^ (from % 32)))
  next_in_first_either from a b p q some =
      let small = either_small one two (from / 32) a b one_cells two_cells p q in
      next_from_first (λ v. has one v || has two v) (either one two) (either-bits one two) from (bit_or a b) (either_is one two (from / 32) a b p q) small (less_shifted (bit_or a b) (from % 32) small) (omega arith)

  pub none_in_word_either : (from i a b : ℕ) → a ≡ row_word one i → b ≡ row_word two i → bit_or a b ≡ 0 → ((v : ℕ) → from ≤ v → v < 32 * i → (has one v || has two v) ≡ false) → (v : ℕ) → from ≤ v → v < 32 * (i + 1) → (has one v || has two v) ≡ false
  none_in_word_either from i a b p q zero before =
      none_from_word (λ v. has one v || has two v) (either one two) (either-bits one two) from i (bit_or a b) (either_is one two i a b p q) zero before

  pub next_in_word_either : (from i a b : ℕ) → a ≡ row_word one i → b ≡ row_word two i → bit_or a b ≢ 0 → from ≤ 32 * i → ((v : ℕ) → from ≤ v → v < 32 * i → (has one v || has two v) ≡ false)
      → (trailing_zeros w32 (bit_or a b) < 32) × IsLeastFrom (λ v. has one v || has two v) from (32 * i + trailing_zeros w32 (bit_or a b))
  next_in_word_either from i a b p q some low before =
      next_from_word (λ v. has one v || has two v) (either one two) (either-bits one two) from i (bit_or a b) (either_is one two i a b p q) (either_small one two i a b one_cells two_cells p q) (omega arith) low before

pub either-past : (one two : List ℤ) (v : ℕ) → length one ≡ length two → length one ≤ v / 32 → (has one v || has two v) ≡ false
either-past one two v same p = ap₂ ◌||◌ (has-past one v p) (has-past two v (omega arith))

pub either_at_end : (one two : List ℤ) (from i : ℕ) → length one ≡ length two → length one ≤ i → ((v : ℕ) → from ≤ v → v < 32 * i → (has one v || has two v) ≡ false) → (v : ℕ) → from ≤ v → (has one v || has two v) ≡ false
either_at_end one two from i same l before v m =
    elim (cases_lt v (32 * i)) [
      | inl k ↦ before v m k
      | inr k ↦ either-past one two v same (omega arith)
    ]

-- is_set

pub above_zero : (row : List ℤ) (n a : ℕ) → a ≡ row_word row (n / 32) → length row ≤ n / 32 + 1 → a / 2 ^ (n % 32) ≡ 0 → (v : ℕ) → n ≤ v → has row v ≡ false
above_zero row n a e l z v m =
    elim (cases_lt v (32 * (n / 32 + 1))) [
      | inl k ↦ none_in_first row n a e z v m k
      | inr k ↦ has-past row v (omega arith)
    ]

pub above_some : (row : List ℤ) (n a : ℕ) → a ≡ row_word row (n / 32) → a < 2 ^ 32 → a / 2 ^ (n % 32) < 2 ^ 32 → ((v : ℕ) → n ≤ v → has row v ≡ false) → a / 2 ^ (n % 32) ≡ 0
above_some row n a e p q h =
    elim (cases_lt 0 (a / 2 ^ (n % 32))) [
      | inl z ↦ (let next = next_in_first row n a e p q z in absurd (false≢true (sym (h (n + trailing_zeros w32 (a / 2 ^ (n % 32))) (omega arith)) ∙ next.1.passes)))
      | inr z ↦ omega arith
    ]
