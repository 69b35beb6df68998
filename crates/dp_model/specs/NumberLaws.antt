-- What tests of two numbers say, and which numbers are small.
use Rattle.std.proofs.Common.{◌≡◌, ℕ, suc, ◌^◌, ◌<◌, ◌≤◌, ℤ, pos, neg_ℤ, ◌-ℤ◌, ◌≤ℤ◌, true, false, List, [], ◌∷◌, length, get_or, int_le, int_lt, arith}
use Rattle.std.proofs.lemmas.Int.{ints}
use Rattle.dp_model.specs.Lists.{Each}
use Rattle.dp_model.specs.Numbers.{IsSmall}

-- ---- tests

pub int_le-is : (a b : ℤ) → int_le a b ≡ true → a ≤ℤ b
int_le-is a b h = grind (arith, ints)

pub int_le-from : (a b : ℤ) → a ≤ℤ b → int_le a b ≡ true
int_le-from a b h = grind (arith, ints)

pub int_lt-is_not : (a b : ℤ) → int_lt a b ≡ false → b ≤ℤ a
int_lt-is_not a b h = grind (arith, ints)

pub int_lt-fails : (a b : ℤ) → b ≤ℤ a → int_lt a b ≡ false
int_lt-fails a b h = grind (arith, ints)

-- ---- small numbers

pub small_natural : (n : ℕ) → n ≤ 2 ^ 50 → IsSmall (pos n)
small_natural n h = record { low = omega (arith, ints); high = omega (arith, ints) }

pub small_negated : (n : ℕ) → n ≤ 2 ^ 50 → IsSmall (neg_ℤ (pos n))
small_negated n h = record { low = omega (arith, ints); high = omega (arith, ints) }

pub small_difference : (a b : ℕ) → a ≤ 2 ^ 50 → b ≤ 2 ^ 50 → IsSmall (pos a -ℤ pos b)
small_difference a b h k = record { low = omega (arith, ints); high = omega (arith, ints) }

pub small_positive : (z : ℤ) → pos 0 ≤ℤ z → z ≤ℤ pos (2 ^ 50) → IsSmall z
small_positive z low high = record { low = omega (arith, ints); high = high }

-- a gap is positive and small
pub small_gap : (z : ℤ) → pos 0 ≤ℤ z → z ≤ℤ pos (2 ^ 50) → (pos 0 ≤ℤ z) × IsSmall z
small_gap z low high = (low, small_positive z low high)

-- a number between a bound and its negation
pub small_between : (z bound : ℤ) → neg_ℤ bound ≤ℤ z → z ≤ℤ bound → bound ≤ℤ pos (2 ^ 50) → IsSmall z
small_between z bound low high small = record { low = omega (arith, ints); high = omega (arith, ints) }

-- a row of which each cell is small
pub each_small : (s : List ℤ) → ((k : ℕ) → k < length s → IsSmall (get_or s k (pos 0))) → Each IsSmall s
each_small [] h = tt
each_small (z ∷ s) h = (h 0 (omega arith), each_small s (λ k below. h (suc k) (omega arith)))
