-- A row after one word of it was changed, or all were cleared.
use Rattle.std.proofs.Common.{◌≡◌, ◌≢◌, ℕ, ◌*◌, ◌/◌, ◌%◌, ◌^◌, ◌<◌, ℤ, pos, nat_abs, Bool, true, false, cond, ◌||◌, nat_eq, List, length, get_or, set, replicate, refl, sym, ap, ap₂, ◌∙◌, subst, arith, inl, inr, bit_and, bit_or, eq-eqb}
use Rattle.std.specs.Int.{w32}
use Rattle.std.proofs.lemmas.Bool.{cases_eq, cases_lt, ne_eqb}
use Rattle.std.proofs.lemmas.List.{get_or-replicate, get_or_past, length-replicate}
use Rattle.std.proofs.lemmas.Nat.Bits.{bit_at_set_same, bit_at_set_other, shr_and_one}
use Rattle.node_sets.specs.Sets.{IsWord, AreWords, HasMembers, row_word, has}
use Rattle.node_sets.proofs.Bits.{on, on_zero}
use Rattle.node_sets.proofs.Words.{has-on, IsWord-pos, row_word-set_same, row_word-set_other}

pub changed_members : (row : List ℤ) (v w : ℕ) (after : Bool) → v / 32 < length row → on w (v % 32) ≡ after → ((k : ℕ) → k < 32 → k ≢ v % 32 → on w k ≡ on (row_word row (v / 32)) k) → (u : ℕ) → has (set row (v / 32) (pos w)) u ≡ cond (nat_eq u v) after (has row u)
changed_members row v w after l here others u =
    elim (cases_eq (u / 32) (v / 32)) [
      | inl e ↦ (elim (cases_eq (u % 32) (v % 32)) [
        | inl m ↦
            let same : u ≡ v = omega arith in
            has-on (set row (v / 32) (pos w)) u ∙ ap₂ (λ i k. on (row_word (set row (v / 32) (pos w)) i) k) e m ∙ ap (λ x. on x (v % 32)) (row_word-set_same row (v / 32) w l) ∙ here
            ∙ ap (λ b. cond b after (has row u)) (sym (eq-eqb u v same))
        | inr n ↦
            let apart : u ≢ v = λ s. n (ap (λ x. x % 32) s) in
            has-on (set row (v / 32) (pos w)) u ∙ ap (λ i. on (row_word (set row (v / 32) (pos w)) i) (u % 32)) e ∙ ap (λ x. on x (u % 32)) (row_word-set_same row (v / 32) w l) ∙ others (u % 32) (omega arith) n
            ∙ ap (λ i. on (row_word row i) (u % 32)) (sym e) ∙ sym (has-on row u) ∙ ap (λ b. cond b after (has row u)) (sym (ne_eqb u v apart))
      ])
      | inr n ↦
          let apart : u ≢ v = λ s. n (ap (λ x. x / 32) s) in
          has-on (set row (v / 32) (pos w)) u ∙ ap (λ x. on x (u % 32)) (row_word-set_other row (v / 32) (u / 32) w n) ∙ sym (has-on row u) ∙ ap (λ b. cond b after (has row u)) (sym (ne_eqb u v apart))
    ]

true_or : (same member : Bool) → cond same true member ≡ member || same
true_or true true = refl
true_or true false = refl
true_or false true = refl
true_or false false = refl

pub insert_members : (row : List ℤ) (v a : ℕ) → v < 32 * length row → a ≡ row_word row (v / 32) → HasMembers (set row (v / 32) (pos (bit_or a (1 * 2 ^ (v % 32) % 2 ^ 32)))) (λ u. has row u || nat_eq u v)
insert_members row v a l e u =
    changed_members row v (bit_or a (1 * 2 ^ (v % 32) % 2 ^ 32)) true (omega arith)
    (ap (λ x. nat_eq x 1) (bit_at_set_same w32 a (v % 32) (omega arith)))
    (λ k m n. ap (λ x. nat_eq x 1) (bit_at_set_other w32 a (v % 32) (omega arith) k n) ∙ ap (λ x. on x k) e) u
    ∙ true_or (nat_eq u v) (has row u)

pub contains_is : (row : List ℤ) (v a : ℕ) → a ≡ row_word row (v / 32) → nat_eq (bit_and (a / 2 ^ (v % 32)) 1) 1 ≡ has row v
contains_is row v a e = ap (λ x. nat_eq x 1) (shr_and_one a (v % 32)) ∙ ap (λ x. on x (v % 32)) e ∙ sym (has-on row v)

zero_cells : (n i : ℕ) → get_or (replicate n (pos 0)) i (pos 0) ≡ pos 0
zero_cells n i = elim (cases_lt i n) [
  | inl l ↦ get_or-replicate n i (pos 0) (pos 0) l
  | inr l ↦ get_or_past (replicate n (pos 0)) i (pos 0) (omega (arith, length-replicate n (pos 0)))
]

pub zero_words : (n i : ℕ) → row_word (replicate n (pos 0)) i ≡ 0
unfolding row_word
zero_words n i = ap nat_abs (zero_cells n i)

pub clear_members : (row : List ℤ) (n : ℕ) → row ≡ replicate n (pos 0) → HasMembers row (λ _. false)
clear_members row n e v = ap (λ r. has r v) e ∙ has-on (replicate n (pos 0)) v ∙ ap (λ x. on x (v % 32)) (zero_words n (v / 32)) ∙ on_zero (v % 32)

pub clear_cells : (row : List ℤ) (n : ℕ) → row ≡ replicate n (pos 0) → AreWords row
clear_cells row n e i = subst IsWord (sym (ap (λ r. get_or r i (pos 0)) e ∙ zero_cells n i)) (IsWord-pos 0 (omega arith))
