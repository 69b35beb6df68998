-- One component more of a pass over rows.
use Rattle.std.proofs.Common.{◌≡◌, ℕ, zero, suc, ◌+◌, ◌^◌, ◌<◌, ℤ, pos, ◌+ℤ◌, ◌≤ℤ◌, FitsSigned, to_z, of_z, w64, List, [], ◌∷◌, length, get_or, drop, arith, ap, ◌∙◌}
use Rattle.std.proofs.lemmas.Int.{ints, clamps, to_z-of_z}
use Rattle.std.proofs.lemmas.List.{drop_more}
use Rattle.benefit_rows.specs.Benefits.{size_of, rank_of, gap_between, gap_of}
use Rattle.benefit_rows.specs.BenefitLaws.{size_of-positive, rank_of-positive, gap_between-positive, gap_of-positive, gap_of-most}

pub rank_of-drop_more : (ss : List ℤ) (i : ℕ) (d : ℤ) → i < length ss → rank_of (drop i ss) ≡ size_of (get_or ss i d) +ℤ rank_of (drop (i + 1) ss)
rank_of-drop_more ss i d h = ap rank_of (drop_more ss i d h)

pub gap_of-drop_more : (as_ ss : List ℤ) (i : ℕ) (a s : ℤ) → i < length as_ → length as_ ≡ length ss
    → gap_of (drop i as_) (drop i ss) ≡ gap_between (get_or as_ i a) (get_or ss i s) +ℤ gap_of (drop (i + 1) as_) (drop (i + 1) ss)
gap_of-drop_more as_ ss i a s h e =
    let h2 : i < length ss = omega arith in rw (drop_more as_ i a h, drop_more ss i s h2)

-- no component is greater than the rank
pub size_of-at : (ss : List ℤ) (i : ℕ) (d : ℤ) → i < length ss → size_of (get_or ss i d) ≤ℤ rank_of ss
size_of-at [] i d h = absurd (omega arith)
size_of-at (s ∷ ss) zero d h = omega (arith, ints, rank_of-positive ss)
size_of-at (s ∷ ss) (suc i) d h = omega (arith, ints, size_of-positive s, size_of-at ss i d (omega arith))

-- a benefit of at most 2^62 in size fits 64 bits
pub fits_by_size : (z : ℤ) → size_of z ≤ℤ pos (2 ^ 62) → FitsSigned w64 z
fits_by_size z h = omega (arith, ints, clamps)

-- and so it is read as it is
pub read_by_size : (z : ℤ) → size_of z ≤ℤ pos (2 ^ 62) → to_z w64 (of_z w64 z) ≡ z
read_by_size z h = to_z-of_z w64 z (fits_by_size z h)

-- a component of a row is read as it is, and is no larger than the rank
pub record ReadAt (row : List ℤ) (i : ℕ) : Type 0 where
  pub is : to_z w64 (of_z w64 (get_or row i (pos 0))) ≡ get_or row i (pos 0)
  pub size : size_of (to_z w64 (of_z w64 (get_or row i (pos 0)))) ≤ℤ rank_of row

pub read_at : (row : List ℤ) (i : ℕ) → i < length row → rank_of row ≤ℤ pos (2 ^ 62) → ReadAt row i
read_at row i h small =
    let size = size_of-at row i (pos 0) h in
    let is = read_by_size (get_or row i (pos 0)) (omega (arith, ints)) in
    record { is = is; size = rw is size }

-- the rank of what is left is the size of one component and the rank of the rest, which are at least zero
pub record RankMore (row : List ℤ) (i : ℕ) (got : ℤ) : Type 0 where
  pub is : got +ℤ rank_of (drop (i + 1) row) ≡ rank_of (drop i row)
  pub low : pos 0 ≤ℤ got
  pub rest : pos 0 ≤ℤ rank_of (drop (i + 1) row)

pub rank_more : (row : List ℤ) (i : ℕ) (z got : ℤ) → i < length row → z ≡ get_or row i (pos 0) → got ≡ size_of z → RankMore row i got
rank_more row i z got h at is =
    let read : got ≡ size_of (get_or row i (pos 0)) = is ∙ ap size_of at in
    record {
      is = omega (arith, ints, rank_of-drop_more row i (pos 0) h);
      low = omega (arith, ints, size_of-positive (get_or row i (pos 0)));
      rest = rank_of-positive (drop (i + 1) row);
    }

-- twice the gap of what is left is twice the gap of one component and twice that of the rest; all of them are at least zero
pub record GapMore (from to : List ℤ) (i : ℕ) (got : ℤ) : Type 0 where
  pub is : got +ℤ (gap_of (drop (i + 1) from) (drop (i + 1) to) +ℤ gap_of (drop (i + 1) from) (drop (i + 1) to)) ≡ gap_of (drop i from) (drop i to) +ℤ gap_of (drop i from) (drop i to)
  pub low : pos 0 ≤ℤ got
  pub rest : pos 0 ≤ℤ gap_of (drop (i + 1) from) (drop (i + 1) to)
  pub most : gap_of from to ≤ℤ rank_of to

pub gap_more : (from to : List ℤ) (i : ℕ) (a s got : ℤ) → i < length from → length from ≡ length to → a ≡ get_or from i (pos 0) → s ≡ get_or to i (pos 0)
    → got ≡ gap_between a s +ℤ gap_between a s → GapMore from to i got
gap_more from to i a s got h e at_a at_s is =
    let read : got ≡ gap_between (get_or from i (pos 0)) (get_or to i (pos 0)) +ℤ gap_between (get_or from i (pos 0)) (get_or to i (pos 0)) = is ∙ (ap (λ z. gap_between z s +ℤ gap_between z s) at_a ∙ ap (λ z. gap_between (get_or from i (pos 0)) z +ℤ gap_between (get_or from i (pos 0)) z) at_s) in
    record {
      is = omega (arith, ints, gap_of-drop_more from to i (pos 0) (pos 0) h e);
      low = omega (arith, ints, gap_between-positive (get_or from i (pos 0)) (get_or to i (pos 0)));
      rest = gap_of-positive (drop (i + 1) from) (drop (i + 1) to);
      most = gap_of-most from to;
    }
