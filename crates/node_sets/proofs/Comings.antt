-- What is left of a word tells the next member.
use Rattle.std.proofs.Common.{◌≡◌, ℕ, ◌+◌, ◌-◌, ◌*◌, ◌%◌, ◌^◌, ◌<◌, ◌≤◌, ℤ, not, ◌&&◌, nat_lt, nat_eq, false, List, length, sym, ap, ◌∙◌, arith, inl, inr, bit_and}
use Rattle.std.specs.Int.{bit_not, w32, trailing_zeros}
use Rattle.std.proofs.lemmas.Bool.{cases_eq, cases_lt, false≢true, lt-ltb, le-ltb}
use Rattle.std.proofs.lemmas.Nat.Bits.{bit_at_clear_same, bit_at_clear_other}
use Rattle.node_sets.specs.Sets.{AreWords, IsLeastFrom, row_word, has}
use Rattle.node_sets.specs.Coming.{IsRest}
use Rattle.node_sets.proofs.Bits.{on, on_zero, lowest_on}
use Rattle.node_sets.proofs.Words.{has_in, has-past}

-- a number before the first one is not among the members
rest_before : (row : List ℤ) (word from j : ℕ) → 32 * word + j < from → (not (nat_lt (32 * word + j) from) && has row (32 * word + j)) ≡ false
rest_before row word from j l = ap (λ b. not b && has row (32 * word + j)) (lt-ltb (32 * word + j) from l)

-- and one after it is, where the row has it
rest_after_first : (row : List ℤ) (word from j : ℕ) → from ≤ 32 * word + j → (not (nat_lt (32 * word + j) from) && has row (32 * word + j)) ≡ has row (32 * word + j)
rest_after_first row word from j l = ap (λ b. not b && has row (32 * word + j)) (le-ltb (32 * word + j) from l)

-- a whole word is left
pub whole_word : (row : List ℤ) (i bits : ℕ) → AreWords row → length row < 2 ^ 32 → bits ≡ row_word row i → IsRest row i (32 * i) bits
whole_word row i bits cells short e = record {
  cells = cells;
  short = short;
  low = omega arith;
  high = omega arith;
  left = λ j l. ap (λ b. on b j) e ∙ has_in row i j l ∙ sym (rest_after_first row i (32 * i) j (omega arith));
}

-- the members of the word, from the number on, are its bits
rest_at : (row : List ℤ) (word from bits : ℕ) → IsRest row word from bits → (u : ℕ) → from ≤ u → u < 32 * word + 32 → has row u ≡ on bits (u - 32 * word)
rest_at row word from bits r u a b =
    let low = r.low in
    let place : 32 * word + (u - 32 * word) ≡ u = omega arith in
    ap (has row) (sym place) ∙ sym (rest_after_first row word from (u - 32 * word) (omega arith)) ∙ sym (r.left (u - 32 * word) (omega arith))

pub next_in_rest : (row : List ℤ) (word from bits : ℕ) → IsRest row word from bits → 0 < bits → bits < 2 ^ 32
    → (trailing_zeros w32 bits < 32) × IsLeastFrom (has row) from (32 * word + trailing_zeros w32 bits)
next_in_rest row word from bits r some small =
    let t = trailing_zeros w32 bits in
    let lowest = lowest_on bits some small in
    let low = r.low in
    let reached : from ≤ 32 * word + t = elim (cases_lt (32 * word + t) from) [
      | inl l ↦ absurd (false≢true (sym (rest_before row word from t l) ∙ sym (r.left t lowest.0) ∙ lowest.1))
      | inr l ↦ l
    ] in
    let place : 32 * word + t - 32 * word ≡ t = omega arith in (
      lowest.0,
      record {
        reached = reached;
        passes = rest_at row word from bits r (32 * word + t) reached (omega (arith, lowest.0)) ∙ ap (on bits) place ∙ lowest.1;
        skipped = λ u a b. rest_at row word from bits r u a (omega (arith, lowest.0)) ∙ lowest.2 (u - 32 * word) (omega arith);
      },
    )

-- a member lies in the row
pub next_small : (row : List ℤ) (from v : ℕ) → IsLeastFrom (has row) from v → v < 32 * length row
next_small row from v next =
    elim (cases_lt v (32 * length row)) [
      | inl l ↦ l
      | inr l ↦ absurd (false≢true (sym (has-past row v (omega arith)) ∙ next.passes))
    ]

-- the next member from a number on is the next one from an earlier number on, where none lies between
pub next_from : (row : List ℤ) (first from v : ℕ) → first ≤ from → ((u : ℕ) → first ≤ u → u < from → has row u ≡ false) → IsLeastFrom (has row) from v → IsLeastFrom (has row) first v
next_from row first from v l none next = record {
  reached = (let reached = next.reached in omega arith);
  passes = next.passes;
  skipped = λ u a b. elim (cases_lt u from) [
    | inl m ↦ none u a m
    | inr m ↦ next.skipped u m b
  ];
}

-- what is left after the next member
pub rest_following : (row : List ℤ) (word from bits : ℕ) → IsRest row word from bits → 0 < bits → bits < 2 ^ 32
    → IsRest row word (32 * word + trailing_zeros w32 bits + 1) (bit_and bits (bit_not w32 (1 * 2 ^ trailing_zeros w32 bits % 2 ^ 32)))
rest_following row word from bits r some small =
    let t = trailing_zeros w32 bits in
    let lowest = lowest_on bits some small in
    let next = (next_in_rest row word from bits r some small).1 in
    let reached = next.reached in
    record {
      cells = r.cells;
      short = r.short;
      low = omega arith;
      high = omega (arith, lowest.0);
      left = λ j l. elim (cases_eq j t) [
        | inl e ↦ ap (λ i. on (bit_and bits (bit_not w32 (1 * 2 ^ t % 2 ^ 32))) i) e ∙ ap (λ x. nat_eq x 1) (bit_at_clear_same w32 bits t lowest.0) ∙ sym (rest_before row word (32 * word + t + 1) j (omega arith))
        | inr other ↦ ap (λ x. nat_eq x 1) (bit_at_clear_other w32 bits t lowest.0 j l other) ∙ (elim (cases_lt j t) [
          | inl before ↦ lowest.2 j before ∙ sym (rest_before row word (32 * word + t + 1) j (omega arith))
          | inr following ↦ r.left j l ∙ (rest_after_first row word from j (omega arith) ∙ sym (rest_after_first row word (32 * word + t + 1) j (omega arith)))
        ])
      ];
    }

pub none_in_rest : (row : List ℤ) (word from bits : ℕ) → IsRest row word from bits → bits ≡ 0 → (v : ℕ) → from ≤ v → v < 32 * (word + 1) → has row v ≡ false
none_in_rest row word from bits r zero v a b =
    rest_at row word from bits r v a (omega arith) ∙ (ap (λ w. on w (v - 32 * word)) zero ∙ on_zero (v - 32 * word))
