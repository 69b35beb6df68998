-- How far the sums of two rows are apart, by the last 16 bits of their hashes.
use Rattle.std.proofs.Common.{◌≡◌, FitsSigned, ℕ, ◌+◌, ◌-◌, ◌/◌, ◌%◌, ◌^◌, ◌<◌, ℤ, pos, negsuc, subst, ◌+ℤ◌, ◌-ℤ◌, ◌*ℤ◌, ◌≤ℤ◌, to_z, of_z, w16, w64, List, [], ◌∷◌, length, arith, ◌∙◌}
use Rattle.std.specs.Int.{int_wrap, int_rem_euclid}
use Rattle.std.specs.Prelude.{unsigned_abs}
use Rattle.std.proofs.lemmas.Int.{ints, clamps, of_z-to_z}
use Rattle.benefit_rows.specs.Benefits.{differences, rank_of}
use Rattle.pair_rows.specs.Hashes.{hash_of, polynomial}

-- the polynomials of two rows differ by the difference of their sums, and a multiple of 2^16
pub record SumsApart (a s : List ℤ) : Type 0 where
  pub apart : ℤ
  pub times : ℤ
  pub is : polynomial a -ℤ polynomial s ≡ apart +ℤ (times *ℤ pos (2 ^ 16))
  pub low : pos 0 ≤ℤ (apart +ℤ rank_of (differences a s))
  pub high : apart ≤ℤ rank_of (differences a s)

pub sums-apart : (a s : List ℤ) → length a ≡ length s → SumsApart a s
sums-apart [] [] e = record { apart = pos 0; times = pos 0; is = omega (arith, ints); low = omega (arith, ints); high = omega (arith, ints) }
sums-apart [] (t ∷ s) e = absurd (omega arith)
sums-apart (b ∷ a) [] e = absurd (omega arith)
sums-apart (b ∷ a) (t ∷ s) e =
    let rest = sums-apart a s (omega arith) in
    record {
      apart = rest.apart +ℤ (b -ℤ t);
      times = rest.times +ℤ ((polynomial a -ℤ polynomial s) *ℤ pos 0x2545f4914f63);
      is = omega (arith, ints, rest.is);
      low = omega (arith, ints, clamps, rest.low);
      high = omega (arith, ints, clamps, rest.high);
    }

-- a number and its last 64 bits
record LastBits (z : ℤ) (n : ℕ) : Type 0 where
  times : ℤ
  is : z ≡ pos n +ℤ (times *ℤ pos (2 ^ 64))

rest-of : (z : ℤ) → LastBits z (unsigned_abs (int_rem_euclid z (pos (2 ^ 64))))
rest-of (pos a) = record { times = pos (a / 2 ^ 64); is = omega (arith, ints) }
rest-of (negsuc a) = record { times = negsuc (a / 2 ^ 64); is = omega (arith, ints) }

rest-small : (z : ℤ) → unsigned_abs (int_rem_euclid z (pos (2 ^ 64))) < 2 ^ 64
rest-small (pos a) = omega arith
rest-small (negsuc a) = omega arith

wrapped-rest : (z : ℤ) → of_z w64 (int_wrap w64 z) ≡ unsigned_abs (int_rem_euclid z (pos (2 ^ 64)))
unfolding int_wrap
wrapped-rest z = of_z-to_z w64 _ (rest-small z)

last-bits : (z : ℤ) (n : ℕ) → n ≡ of_z w64 (int_wrap w64 z) → LastBits z n
last-bits z n e = rw (e ∙ wrapped-rest z) (rest-of z)

-- a word of 16 bits, as a signed number
record AsSigned (z : ℤ) (n : ℕ) : Type 0 where
  times : ℤ
  is : z ≡ pos n +ℤ (times *ℤ pos (2 ^ 16))
  low : pos 0 ≤ℤ (z +ℤ pos (2 ^ 15))
  high : z ≤ℤ pos (2 ^ 15)

signed-of : (z : ℤ) → FitsSigned w16 z → AsSigned z (of_z w16 z)
signed-of (pos m) fits = record { times = pos 0; is = omega (arith, ints); low = omega (arith, ints); high = omega (arith, ints) }
signed-of (negsuc m) fits = record { times = negsuc 0; is = omega (arith, ints); low = omega (arith, ints); high = omega (arith, ints) }

as-signed : (n : ℕ) → n < 2 ^ 16 → AsSigned (to_z w16 n) n
as-signed n h = subst (AsSigned (to_z w16 n)) (of_z-to_z w16 n h) (signed-of (to_z w16 n) (omega (arith, ints)))

-- a number of at most half of 2^16 in size is no larger than one that differs from it by a multiple of 2^16
nearest : (z x times most : ℤ) → x ≡ z +ℤ (times *ℤ pos (2 ^ 16)) → pos 0 ≤ℤ (z +ℤ pos (2 ^ 15)) → z ≤ℤ pos (2 ^ 15) → pos 0 ≤ℤ (x +ℤ most) → x ≤ℤ most
    → pos (unsigned_abs z) ≤ℤ most
nearest z x times most is low high above below = omega (arith, ints)

-- the difference of two hashes, as it is computed
abbrev pub sub-words : ℕ → ℕ → ℕ
sub-words hash other = ((hash + (2 ^ 64 - other)) % 2 ^ 64) % 2 ^ 16

-- two numbers differ by what is computed from their last 64 bits, and a multiple of 2^16
differ : (p q : ℤ) (hash other : ℕ) → other < 2 ^ 64 → LastBits p hash → LastBits q other → (times : ℤ) × (p -ℤ q ≡ pos (sub-words hash other) +ℤ (times *ℤ pos (2 ^ 16)))
differ p q hash other small first second =
    let sum : ℕ = hash + (2 ^ 64 - other) in
    (((first.times -ℤ second.times) +ℤ (pos (sum / 2 ^ 64) -ℤ pos 1)) *ℤ pos (2 ^ 48) +ℤ pos ((sum % 2 ^ 64) / 2 ^ 16), omega (arith, ints, first.is, second.is))

pub least : (a s : List ℤ) (hash other : ℕ) → other < 2 ^ 64 → length a ≡ length s → hash ≡ hash_of a → other ≡ hash_of s
    → pos (unsigned_abs (to_z w16 (sub-words hash other))) ≤ℤ rank_of (differences a s)
least a s hash other small long hash_is other_is =
    let sums = sums-apart a s long in
    let words = differ (polynomial a) (polynomial s) hash other small (last-bits (polynomial a) hash hash_is) (last-bits (polynomial s) other other_is) in
    let last = as-signed (sub-words hash other) (omega arith) in
    nearest (to_z w16 (sub-words hash other)) sums.apart ((words.0 -ℤ last.times) -ℤ sums.times) (rank_of (differences a s)) (omega (arith, ints, sums.is, words.1, last.is)) last.low last.high sums.low sums.high
