-- Sums of rows, component by component.
use Rattle.std.proofs.Common.{◌≡◌, ℕ, zero, suc, ◌+◌, ◌^◌, ◌<◌, ℤ, pos, ◌+ℤ◌, ◌≤ℤ◌, FitsSigned, to_z, of_z, w64, List, [], ◌∷◌, ◌++◌, length, get_or, set, take, drop, arith, ap, ◌∙◌, sym, refl}
use Rattle.std.proofs.lemmas.Int.{ints}
use Rattle.std.proofs.lemmas.List.{drop_more, take_more_set, append_assoc}
use Rattle.benefit_rows.specs.Benefits.{size_of, rank_of, sums_of}
use Rattle.benefit_rows.specs.BenefitLaws.{size_of-add}
use Rattle.benefit_rows.proofs.Steps.{fits_by_size, read_by_size, read_at, size_of-at}

pub sums_of-drop_more : (ss ps : List ℤ) (i : ℕ) (d : ℤ) → i < length ss → length ss ≡ length ps
    → sums_of (drop i ss) (drop i ps) ≡ (get_or ss i d +ℤ get_or ps i d) ∷ sums_of (drop (i + 1) ss) (drop (i + 1) ps)
sums_of-drop_more ss ps i d h e =
    let h2 : i < length ps = omega arith in rw (drop_more ss i d h, drop_more ps i d h2)

pub sums_of-at : (ss ps : List ℤ) (i : ℕ) → i < length ss → i < length ps → get_or (sums_of ss ps) i (pos 0) ≡ get_or ss i (pos 0) +ℤ get_or ps i (pos 0)
sums_of-at [] ps i h k = absurd (omega arith)
sums_of-at (s ∷ ss) [] i h k = absurd (omega arith)
sums_of-at (s ∷ ss) (p ∷ ps) zero h k = refl
sums_of-at (s ∷ ss) (p ∷ ps) (suc i) h k = sums_of-at ss ps i (omega arith) (omega arith)

-- one sum more is written
pub sums_written : (out ss ps total : List ℤ) (i : ℕ) (v : ℤ) → i < length out → length out ≡ length ss → length ss ≡ length ps
    → v ≡ get_or (sums_of ss ps) i (pos 0)
    → take i out ++ sums_of (drop i ss) (drop i ps) ≡ total
    → take (i + 1) (set out i v) ++ sums_of (drop (i + 1) ss) (drop (i + 1) ps) ≡ total
sums_written out ss ps total i v h e f is so_far =
    let under : i < length ss = omega arith in
    let more : sums_of (drop i ss) (drop i ps) ≡ v ∷ sums_of (drop (i + 1) ss) (drop (i + 1) ps) = sums_of-drop_more ss ps i (pos 0) under f ∙ ap (λ z. z ∷ sums_of (drop (i + 1) ss) (drop (i + 1) ps)) (sym (is ∙ sums_of-at ss ps i under (omega arith))) in
    ap (λ zs. zs ++ sums_of (drop (i + 1) ss) (drop (i + 1) ps)) (take_more_set out i v h)
    ∙ (append_assoc (take i out) (v ∷ []) (sums_of (drop (i + 1) ss) (drop (i + 1) ps))
    ∙ (ap (λ zs. take i out ++ zs) (sym more) ∙ so_far))

-- a sum as it is read
pub record SumAt (ss as_ : List ℤ) (i : ℕ) : Type 0 where
  pub fits : FitsSigned w64 (to_z w64 (of_z w64 (get_or ss i (pos 0))) +ℤ to_z w64 (of_z w64 (get_or as_ i (pos 0))))
  pub is : to_z w64 (of_z w64 (to_z w64 (of_z w64 (get_or ss i (pos 0))) +ℤ to_z w64 (of_z w64 (get_or as_ i (pos 0))))) ≡ get_or (sums_of ss as_) i (pos 0)
  pub size : size_of (get_or (sums_of ss as_) i (pos 0)) ≤ℤ pos (2 ^ 61)

pub sum_at : (ss as_ : List ℤ) (i : ℕ) → i < length ss → length ss ≡ length as_ → rank_of ss ≤ℤ pos (2 ^ 60) → rank_of as_ ≤ℤ pos (2 ^ 60) → SumAt ss as_ i
sum_at ss as_ i h e small large =
    let below : i < length as_ = omega arith in
    let first = size_of-at ss i (pos 0) h in
    let second = size_of-at as_ i (pos 0) below in
    let read_first = (read_at ss i h (omega (arith, ints))).is in
    let read_second = (read_at as_ i below (omega (arith, ints))).is in
    let total = size_of-add (get_or ss i (pos 0)) (get_or as_ i (pos 0)) in
    let is = sums_of-at ss as_ i h below in
    record {
      fits = rw (read_first, read_second) (fits_by_size _ (omega (arith, ints)));
      is = rw (read_first, read_second) (read_by_size _ (omega (arith, ints)) ∙ sym is);
      size = rw is (omega (arith, ints));
    }
