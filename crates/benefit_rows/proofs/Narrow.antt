-- Differences of narrow rows, which are read in 32 bits.
use Rattle.std.proofs.Common.{◌≡◌, ℕ, ◌^◌, ◌<◌, ℤ, pos, ◌-ℤ◌, FitsSigned, to_z, of_z, w32, w64, List, length, get_or, take, drop, int_lt, true, arith, sym, ◌∙◌}
use Rattle.std.specs.Prelude.{◌<ℤ◌, neg_ℤ, unsigned_abs}
use Rattle.std.proofs.lemmas.Int.{ints, clamps, to_z-of_z}
use Rattle.benefit_rows.specs.Benefits.{size_of, rank_of, differences}
use Rattle.benefit_rows.specs.BenefitLaws.{rank_of-drop, length-differences}
use Rattle.benefit_rows.specs.Narrow.{AreNarrow}
use Rattle.benefit_rows.proofs.Steps.{RankMore, rank_more, size_of-at}
use Rattle.benefit_rows.proofs.Distances.{differences-at, rank_of-take}

-- a number as it is read in 64 bits and cast to 32
abbrev pub cast_of : ℤ → ℤ
cast_of z = to_z w32 (of_z w32 (to_z w64 (of_z w64 z)))

-- a small number is read and cast as it is
record CastAs (z : ℤ) : Type 0 where
  fits : FitsSigned w32 (to_z w64 (of_z w64 z))
  is : cast_of z ≡ z

cast_as : (z : ℤ) → size_of z <ℤ pos (2 ^ 30) → CastAs z
cast_as z small =
    let fits : FitsSigned w32 z = omega (arith, ints, clamps) in
    let read : to_z w64 (of_z w64 z) ≡ z = to_z-of_z w64 z (omega (arith, ints, clamps)) in
    record { fits = rw read fits; is = rw read (to_z-of_z w32 z fits) }

-- so is the difference of two of them
record SubAs (a s : ℤ) : Type 0 where
  fits : FitsSigned w32 (s -ℤ a)
  is : to_z w32 (of_z w32 (s -ℤ a)) ≡ s -ℤ a
  neg_fits : FitsSigned w32 (neg_ℤ (s -ℤ a))

sub_as : (a s : ℤ) → size_of a <ℤ pos (2 ^ 30) → size_of s <ℤ pos (2 ^ 30) → SubAs a s
sub_as a s small large =
    let fits : FitsSigned w32 (s -ℤ a) = omega (arith, ints, clamps) in
    record { fits = fits; is = to_z-of_z w32 (s -ℤ a) fits; neg_fits = omega (arith, ints, clamps) }

-- a difference as it is computed
abbrev pub narrow_difference : List ℤ → List ℤ → ℕ → ℤ
narrow_difference from to i = to_z w32 (of_z w32 (cast_of (get_or to i (pos 0)) -ℤ cast_of (get_or from i (pos 0))))

-- what is known of it
pub record NarrowAt (from to : List ℤ) (i : ℕ) : Type 0 where
  pub from_fits : FitsSigned w32 (to_z w64 (of_z w64 (get_or from i (pos 0))))
  pub to_fits : FitsSigned w32 (to_z w64 (of_z w64 (get_or to i (pos 0))))
  pub fits : FitsSigned w32 (cast_of (get_or to i (pos 0)) -ℤ cast_of (get_or from i (pos 0)))
  pub neg_fits : FitsSigned w32 (neg_ℤ (narrow_difference from to i))
  pub is : narrow_difference from to i ≡ get_or (differences from to) i (pos 0)

pub narrow_at : (from to : List ℤ) (i : ℕ) → i < length from → length from ≡ length to → AreNarrow from to → NarrowAt from to i
narrow_at from to i h p narrow =
    let below : i < length to = omega arith in
    let small : size_of (get_or from i (pos 0)) <ℤ pos (2 ^ 30) = omega (arith, ints, size_of-at from i (pos 0) h, narrow.from_rank) in
    let large : size_of (get_or to i (pos 0)) <ℤ pos (2 ^ 30) = omega (arith, ints, size_of-at to i (pos 0) below, narrow.to_rank) in
    let first = cast_as (get_or from i (pos 0)) small in
    let second = cast_as (get_or to i (pos 0)) large in
    let sub = sub_as (get_or from i (pos 0)) (get_or to i (pos 0)) small large in
    record {
      from_fits = first.fits;
      to_fits = second.fits;
      fits = rw (first.is, second.is) sub.fits;
      neg_fits = rw (first.is, second.is, sub.is) sub.neg_fits;
      is = rw (first.is, second.is, differences-at from to i h p) sub.is;
    }

-- the size of a difference as it is computed
abs_is : (z : ℤ) → pos (unsigned_abs z) ≡ size_of z
abs_is z = omega (arith, ints, clamps)

pub narrow_more : (from to : List ℤ) (i : ℕ) (got : ℤ) → i < length from → length from ≡ length to → AreNarrow from to
    → got ≡ pos (unsigned_abs (narrow_difference from to i)) → RankMore (differences from to) i got
narrow_more from to i got h p narrow is =
    let long = length-differences from to p in
    rank_more (differences from to) i (narrow_difference from to i) got (omega arith) (narrow_at from to i h p narrow).is (is ∙ abs_is (narrow_difference from to i))

-- parts of narrow rows are narrow
pub drop_narrow : (i : ℕ) (from to : List ℤ) → AreNarrow from to → AreNarrow (drop i from) (drop i to)
drop_narrow i from to narrow = record {
  from_rank = omega (arith, ints, rank_of-drop i from, narrow.from_rank);
  to_rank = omega (arith, ints, rank_of-drop i to, narrow.to_rank);
}

pub take_narrow : (n : ℕ) (from to : List ℤ) → AreNarrow from to → AreNarrow (take n from) (take n to)
take_narrow n from to narrow = record {
  from_rank = omega (arith, ints, rank_of-take n from, narrow.from_rank);
  to_rank = omega (arith, ints, rank_of-take n to, narrow.to_rank);
}

-- a rank that is tested
pub below_narrow : (row : List ℤ) (rank : ℤ) → FitsSigned w64 rank → rank ≡ rank_of row → int_lt (to_z w64 (of_z w64 rank)) (pos (2 ^ 30)) ≡ true → rank_of row <ℤ pos (2 ^ 30)
below_narrow row rank fits is test =
    let less : int_lt rank (pos (2 ^ 30)) ≡ true = rw (to_z-of_z w64 rank fits) at test in
    let small : rank <ℤ pos (2 ^ 30) = grind (arith, ints) in
    rw (sym is) small
