-- Sums that grow entry by entry up to a whole that is bounded.
use Rattle.std.proofs.Common.{◌≡◌, ◌^◌, ℤ, pos, ◌+ℤ◌, ◌≤ℤ◌, FitsSigned, to_z, of_z, w64, arith}
use Rattle.std.proofs.lemmas.Int.{ints, to_z-of_z}

-- a sum so far, the next part and the sum of the rest
pub record SumGrows (whole rest total part : ℤ) : Type 0 where
  pub sum : (total +ℤ part) +ℤ rest ≡ whole
  pub low : pos 0 ≤ℤ (total +ℤ part)
  pub high : (total +ℤ part) ≤ℤ pos (2 ^ 49)
  pub part_low : pos 0 ≤ℤ part
  pub part_high : part ≤ℤ pos (2 ^ 49)
  pub total_high : total ≤ℤ pos (2 ^ 49)

-- where the part and the rest are not negative, the sum stays within the whole
pub sum-grows : (whole left part rest total : ℤ) → left ≡ part +ℤ rest → pos 0 ≤ℤ part → pos 0 ≤ℤ rest → whole ≤ℤ pos (2 ^ 49) →
    (total +ℤ left ≡ whole) × (pos 0 ≤ℤ total) → SumGrows whole rest total part
sum-grows whole left part rest total cut part_low rest_low high before = record {
  sum = omega (arith, ints, before.0);
  low = omega (arith, ints, before.1);
  high = omega (arith, ints, before.0);
  part_low = part_low;
  part_high = omega (arith, ints, before.0, before.1);
  total_high = omega (arith, ints, before.0);
}

-- where nothing is left, the sum so far is the whole
pub sum-done : (whole left total : ℤ) → left ≡ pos 0 → total +ℤ left ≡ whole → total ≡ whole
sum-done whole left total none before = omega (arith, ints)

-- two parts of a whole, neither of them negative, and both small
pub record PartsAdd (whole first second : ℤ) : Type 0 where
  pub sum : first +ℤ second ≡ whole
  pub first_low : pos 0 ≤ℤ first
  pub first_high : first ≤ℤ pos (2 ^ 50)
  pub second_low : pos 0 ≤ℤ second
  pub second_high : second ≤ℤ pos (2 ^ 50)

pub parts-add : (whole first second : ℤ) → first +ℤ second ≡ whole → pos 0 ≤ℤ first → pos 0 ≤ℤ second → whole ≤ℤ pos (2 ^ 50) → PartsAdd whole first second
parts-add whole first second sum first_low second_low high = record {
  sum = sum;
  first_low = first_low;
  first_high = omega (arith, ints);
  second_low = second_low;
  second_high = omega (arith, ints);
}

-- two words that are added, neither of them negative, whose sum is small
pub record WordsAdd (z w : ℤ) : Type 0 where
  pub fits : FitsSigned w64 (to_z w64 (of_z w64 z) +ℤ to_z w64 (of_z w64 w))
  pub is : to_z w64 (of_z w64 (to_z w64 (of_z w64 z) +ℤ to_z w64 (of_z w64 w))) ≡ z +ℤ w

pub words-add : (z w : ℤ) → pos 0 ≤ℤ z → pos 0 ≤ℤ w → (z +ℤ w) ≤ℤ pos (2 ^ 48) → WordsAdd z w
words-add z w z_low w_low high =
    let z_read = to_z-of_z w64 z (omega (arith, ints)) in
    let w_read = to_z-of_z w64 w (omega (arith, ints)) in
    let fits : FitsSigned w64 (z +ℤ w) = omega (arith, ints) in
    record { fits = rw (z_read, w_read) fits; is = rw (z_read, w_read) (to_z-of_z w64 (z +ℤ w) fits) }
