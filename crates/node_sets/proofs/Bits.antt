-- One bit of a word as a test, and what the operations on words do to it.
use Rattle.std.proofs.Common.{◌≡◌, ℕ, zero, suc, ◌+◌, ◌-◌, ◌/◌, ◌%◌, ◌^◌, ◌<◌, ◌≤◌, min, max, Bool, true, false, not, ◌&&◌, ◌||◌, nat_eq, refl, sym, ap, ◌∙◌, arith, bit_and, bit_or}
use Rattle.std.proofs.lemmas.Nat.{pow-add}
use Rattle.std.proofs.Math.Nat.{div-div-eq-div-mul}
use Rattle.std.specs.Int.{bit_at, bit_not, w32, trailing_zeros}
use Rattle.std.proofs.lemmas.Nat.Bits.{bit_at_and, bit_at_or, bit_at_not, bit_at-lt, bit_at_above, same_from_bits_below, bit_at-trailing_zeros, bit_at-zero}

abbrev pub on : ℕ → ℕ → Bool
on n k = nat_eq (bit_at n k) 1

-- what holds of 0 and 1 holds of two bits
two_bits : (P : ℕ → ℕ → Type 0) → P 0 0 → P 0 1 → P 1 0 → P 1 1 → (x y : ℕ) → x < 2 → y < 2 → P x y
two_bits P a b c d zero zero p q = a
two_bits P a b c d zero (suc zero) p q = b
two_bits P a b c d (suc zero) zero p q = c
two_bits P a b c d (suc zero) (suc zero) p q = d
two_bits P a b c d (suc (suc x)) y p q = absurd (omega arith)
two_bits P a b c d zero (suc (suc y)) p q = absurd (omega arith)
two_bits P a b c d (suc zero) (suc (suc y)) p q = absurd (omega arith)

max_on : (x y : ℕ) → x < 2 → y < 2 → nat_eq (max x y) 1 ≡ nat_eq x 1 || nat_eq y 1
max_on = two_bits (λ x y. nat_eq (max x y) 1 ≡ nat_eq x 1 || nat_eq y 1) refl refl refl refl

min_on : (x y : ℕ) → x < 2 → y < 2 → nat_eq (min x y) 1 ≡ nat_eq x 1 && nat_eq y 1
min_on = two_bits (λ x y. nat_eq (min x y) 1 ≡ nat_eq x 1 && nat_eq y 1) refl refl refl refl

not_on : (x : ℕ) → x < 2 → nat_eq (1 - x) 1 ≡ not (nat_eq x 1)
not_on zero p = refl
not_on (suc zero) p = refl
not_on (suc (suc x)) p = absurd (omega arith)

pub on_or : (a b k : ℕ) → on (bit_or a b) k ≡ on a k || on b k
on_or a b k = ap (λ x. nat_eq x 1) (bit_at_or a b k) ∙ max_on (bit_at a k) (bit_at b k) (bit_at-lt a k) (bit_at-lt b k)

pub on_and : (a b k : ℕ) → on (bit_and a b) k ≡ on a k && on b k
on_and a b k = ap (λ x. nat_eq x 1) (bit_at_and a b k) ∙ min_on (bit_at a k) (bit_at b k) (bit_at-lt a k) (bit_at-lt b k)

pub on_not : (a k : ℕ) → a < 2 ^ 32 → k < 32 → on (bit_not w32 a) k ≡ not (on a k)
on_not a k p q = ap (λ x. nat_eq x 1) (bit_at_not w32 a k p q) ∙ not_on (bit_at a k) (bit_at-lt a k)

pub on_zero : (k : ℕ) → on 0 k ≡ false
on_zero k = ap (λ x. nat_eq x 1) (bit_at-zero k)

from_on : (x y : ℕ) → x < 2 → y < 2 → nat_eq x 1 ≡ nat_eq y 1 → x ≡ y
from_on = two_bits (λ x y. nat_eq x 1 ≡ nat_eq y 1 → x ≡ y) (λ e. refl) (λ e. absurd (cc)) (λ e. absurd (cc)) (λ e. refl)

-- two words with the same bits are equal
pub same_word : (a b : ℕ) → a < 2 ^ 32 → b < 2 ^ 32 → ((k : ℕ) → k < 32 → on a k ≡ on b k) → a ≡ b
same_word a b p q h = same_from_bits_below 32 a b p q (λ i l. from_on (bit_at a i) (bit_at b i) (bit_at-lt a i) (bit_at-lt b i) (h i l))

-- a word none of whose bits is set is 0
pub none_on : (a : ℕ) → a < 2 ^ 32 → ((k : ℕ) → k < 32 → on a k ≡ false) → a ≡ 0
none_on a p h = same_word a 0 p (omega arith) (λ k l. h k l ∙ sym (on_zero k))

-- the bits of what is shifted right
pub on_shr : (a s k : ℕ) → on (a / 2 ^ s) k ≡ on a (s + k)
on_shr a s k = ap (λ x. nat_eq (x % 2) 1) (div-div-eq-div-mul a (2 ^ s) (2 ^ k) ∙ ap (λ x. a / x) (sym (pow-add 2 s k)))

pub on_above : (a k i : ℕ) → a < 2 ^ k → k ≤ i → on a i ≡ false
on_above a k i p q = ap (λ x. nat_eq x 1) (bit_at_above a k i p q)

-- the place of the lowest bit
pub lowest_on : (a : ℕ) → 0 < a → a < 2 ^ 32 → (trailing_zeros w32 a < 32) × (on a (trailing_zeros w32 a) ≡ true) × ((i : ℕ) → i < trailing_zeros w32 a → on a i ≡ false)
lowest_on a p q = let t = bit_at-trailing_zeros w32 a p q in (t.0, ap (λ x. nat_eq x 1) t.1, λ i l. ap (λ x. nat_eq x 1) (t.2 i l))
