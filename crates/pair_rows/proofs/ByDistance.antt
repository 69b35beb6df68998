-- Gaps by the ranks of two rows and a distance that they have at least.
use Rattle.std.proofs.Common.{◌≡◌, ◌^◌, ℤ, pos, ◌+ℤ◌, ◌-ℤ◌, ◌*ℤ◌, ◌≤ℤ◌, FitsSigned, to_z, of_z, w64, List, length, int_le, true, false, None, arith}
use Rattle.std.specs.Prelude.{◌<ℤ◌}
use Rattle.std.specs.Int.{int_min}
use Rattle.std.proofs.lemmas.Int.{ints, clamps, to_z-of_z}
use Rattle.benefit_rows.specs.Benefits.{differences, gap_of, rank_of, where_at_most}
use Rattle.benefit_rows.specs.BenefitLaws.{gap_of-by_sizes, gap_of-most, rank_of-differences}
use Rattle.benefit_rows.proofs.Distances.{beyond_most}

-- what a test of two numbers says
is-most : (a b : ℤ) → int_le a b ≡ true → a ≤ℤ b
is-most a b h = grind (arith, ints)

is-beyond : (a b : ℤ) → int_le a b ≡ false → b <ℤ a
is-beyond a b h = grind (arith, ints)

-- how much greater the second rank is, as it is computed
pub record More (from_rank to_rank : ℤ) : Type 0 where
  pub is : to_z w64 (of_z w64 (to_z w64 (of_z w64 to_rank) -ℤ to_z w64 (of_z w64 from_rank))) ≡ to_rank -ℤ from_rank
  pub to_is : to_z w64 (of_z w64 to_rank) ≡ to_rank

pub more-of : (from_rank to_rank : ℤ) → pos 0 ≤ℤ from_rank → from_rank ≤ℤ pos (2 ^ 60) → pos 0 ≤ℤ to_rank → to_rank ≤ℤ pos (2 ^ 60) → More from_rank to_rank
more-of from_rank to_rank from_low from_high to_low to_high =
    let from_is : to_z w64 (of_z w64 from_rank) ≡ from_rank = to_z-of_z w64 from_rank (omega (arith, ints)) in
    let to_is : to_z w64 (of_z w64 to_rank) ≡ to_rank = to_z-of_z w64 to_rank (omega (arith, ints)) in
    record { is = rw (from_is, to_is) (to_z-of_z w64 (to_rank -ℤ from_rank) (omega (arith, ints))); to_is = to_is }

-- the limit of the distance, as it is computed
pub record Limit (from_rank to_rank most least : ℤ) : Type 0 where
  pub fits : FitsSigned w64 (to_z w64 (of_z w64 (pos 2 *ℤ to_z w64 (of_z w64 least))) -ℤ to_z w64 (of_z w64 (to_z w64 (of_z w64 to_rank) -ℤ to_z w64 (of_z w64 from_rank))))
  pub is : to_z w64 (of_z w64 (to_z w64 (of_z w64 (pos 2 *ℤ to_z w64 (of_z w64 least))) -ℤ to_z w64 (of_z w64 (to_z w64 (of_z w64 to_rank) -ℤ to_z w64 (of_z w64 from_rank))))) ≡ (pos 2 *ℤ int_min most to_rank) -ℤ (to_rank -ℤ from_rank)

lesser-low : (more most to : ℤ) → more ≤ℤ most → pos 0 ≤ℤ (more +ℤ pos (2 ^ 60)) → pos 0 ≤ℤ to → pos 0 ≤ℤ (int_min most to +ℤ pos (2 ^ 60))
lesser-low more most to h low to_low = omega (arith, ints, clamps)

lesser-high : (most to : ℤ) → int_min most to ≤ℤ to
lesser-high most to = omega (arith, ints, clamps)

pub limit-of : (from_rank to_rank most least : ℤ) → pos 0 ≤ℤ from_rank → from_rank ≤ℤ pos (2 ^ 60) → pos 0 ≤ℤ to_rank → to_rank ≤ℤ pos (2 ^ 60) → FitsSigned w64 most
    → int_le (to_z w64 (of_z w64 (to_z w64 (of_z w64 to_rank) -ℤ to_z w64 (of_z w64 from_rank)))) (to_z w64 (of_z w64 most)) ≡ true
    → least ≡ int_min (to_z w64 (of_z w64 most)) (to_z w64 (of_z w64 to_rank)) → Limit from_rank to_rank most least
limit-of from_rank to_rank most least from_low from_high to_low to_high most_fits test least_is =
    let more = more-of from_rank to_rank from_low from_high to_low to_high in
    let most_is = to_z-of_z w64 most most_fits in
    let is : least ≡ int_min most to_rank = rw (most_is, more.to_is) at least_is in
    let within : (to_rank -ℤ from_rank) ≤ℤ most = is-most _ _ (rw (more.is, most_is) at test) in
    let low : pos 0 ≤ℤ (int_min most to_rank +ℤ pos (2 ^ 60)) = lesser-low (to_rank -ℤ from_rank) most to_rank within (omega (arith, ints)) to_low in
    let high = lesser-high most to_rank in
    let read : to_z w64 (of_z w64 least) ≡ int_min most to_rank = rw is (to_z-of_z w64 (int_min most to_rank) (omega (arith, ints))) in
    let twice : to_z w64 (of_z w64 (pos 2 *ℤ int_min most to_rank)) ≡ pos 2 *ℤ int_min most to_rank = to_z-of_z w64 _ (omega (arith, ints)) in
    let fits : FitsSigned w64 ((pos 2 *ℤ int_min most to_rank) -ℤ (to_rank -ℤ from_rank)) = omega (arith, ints) in
    record { fits = rw (read, twice, more.is) fits; is = rw (read, twice, more.is) (to_z-of_z w64 _ fits) }

-- a gap is no less than the difference of the ranks
pub by-ranks : (from to : List ℤ) (most : ℤ) → length from ≡ length to → int_le (rank_of to -ℤ rank_of from) most ≡ false → where_at_most most (gap_of from to) ≡ None
by-ranks from to most long test =
    let twice = gap_of-by_sizes from to long in
    let further = rank_of-differences from to long in
    let beyond = is-beyond (rank_of to -ℤ rank_of from) most test in
    beyond_most most (gap_of from to) (omega (arith, ints))

above-lesser : (a b z : ℤ) → int_min a b <ℤ z → z ≤ℤ b → a <ℤ z
above-lesser a b z h k = omega (arith, ints, clamps)

-- a gap is half of the difference of the ranks and the distance
pub by-distance : (from to : List ℤ) (most least : ℤ) → length from ≡ length to → least ≤ℤ rank_of (differences from to)
    → int_le least ((pos 2 *ℤ int_min most (rank_of to)) -ℤ (rank_of to -ℤ rank_of from)) ≡ false → where_at_most most (gap_of from to) ≡ None
by-distance from to most least long low test =
    let twice = gap_of-by_sizes from to long in
    let beyond = is-beyond least ((pos 2 *ℤ int_min most (rank_of to)) -ℤ (rank_of to -ℤ rank_of from)) test in
    beyond_most most (gap_of from to) (above-lesser most (rank_of to) (gap_of from to) (omega (arith, ints)) (gap_of-most from to))
