-- What holds of rows of signed benefits.
use Rattle.std.specs.Prelude.{◌≡◌, ℕ, zero, suc, ℤ, pos, ◌+ℤ◌, ◌-ℤ◌, ◌≤ℤ◌, List, [], ◌∷◌, ◌++◌, length, take, drop, replicate, refl}
use Rattle.std.proofs.Common.{arith, ap, sym, ◌∙◌}
use Rattle.std.proofs.lemmas.Int.{ints, clamps}
use Rattle.std.proofs.lemmas.List.{take-append-drop}
use Rattle.std.specs.Int.{int_max, int_min}
use Rattle.benefit_rows.specs.Benefits.{above_zero, below_zero, size_of, choice_gain, gains_of, rank_of, gap_between, gap_of, benefit_merged, merged_of, differences, sums_of}

-- One benefit.

pub size_of-positive : (z : ℤ) → pos 0 ≤ℤ size_of z
size_of-positive z = omega (arith, ints, clamps)

pub size_of-add : (y z : ℤ) → size_of (y +ℤ z) ≤ℤ (size_of y +ℤ size_of z)
size_of-add y z = omega (arith, ints, clamps)

pub size_of-sub : (y z : ℤ) → size_of (y -ℤ z) ≤ℤ (size_of y +ℤ size_of z)
size_of-sub y z = omega (arith, ints, clamps)

-- no size exceeds another one by more than that of the difference
size_of-following : (a s : ℤ) → size_of s ≤ℤ (size_of a +ℤ size_of (s -ℤ a))
size_of-following a s = omega (arith, ints, clamps)

-- a benefit lies between its size and the negated size
pub size_of-bounds : (z : ℤ) → (z ≤ℤ size_of z) × ((pos 0 -ℤ size_of z) ≤ℤ z)
size_of-bounds z = (omega (arith, ints, clamps), omega (arith, ints, clamps))

pub choice_gain-positive : (z : ℤ) (d : ℕ) → pos 0 ≤ℤ choice_gain z d
choice_gain-positive z zero = omega (arith, ints, clamps)
choice_gain-positive z (suc d) = omega (arith, ints, clamps)

pub choice_gain-most : (z : ℤ) (d : ℕ) → choice_gain z d ≤ℤ size_of z
choice_gain-most z zero = omega (arith, ints, clamps)
choice_gain-most z (suc d) = omega (arith, ints, clamps)

pub gap_between-self : (z : ℤ) → gap_between z z ≡ pos 0
gap_between-self z = omega (arith, ints, clamps)

pub gap_between-positive : (a s : ℤ) → pos 0 ≤ℤ gap_between a s
gap_between-positive a s = omega (arith, ints, clamps)

pub gap_between-most : (a s : ℤ) → gap_between a s ≤ℤ size_of s
gap_between-most a s = omega (arith, ints, clamps)

pub gap_between-chain : (a b c : ℤ) → gap_between a c ≤ℤ (gap_between a b +ℤ gap_between b c)
gap_between-chain a b c = omega (arith, ints, clamps)

pub gap_between-bounds : (a s : ℤ) (d : ℕ) → choice_gain s d ≤ℤ (choice_gain a d +ℤ gap_between a s)
gap_between-bounds a s zero = omega (arith, ints, clamps)
gap_between-bounds a s (suc d) = omega (arith, ints, clamps)

-- a benefit is what is above zero less what is below
pub above_less_below : (z : ℤ) → above_zero z -ℤ below_zero z ≡ z
above_less_below z = omega (arith, ints, clamps)

-- the lesser of two numbers, by how far their difference is above zero and below
pub lesser_above : (p q d : ℤ) → p -ℤ q ≡ d → int_min p q +ℤ above_zero d ≡ p
lesser_above p q d e = omega (arith, ints, clamps)

pub lesser_below : (p q d : ℤ) → p -ℤ q ≡ d → int_min p q +ℤ below_zero d ≡ q
lesser_below p q d e = omega (arith, ints, clamps)

-- twice the greater of two numbers, by the size of their difference
greater_twice : (p q d : ℤ) → p -ℤ q ≡ d → int_max p q +ℤ int_max p q ≡ (p +ℤ q) +ℤ size_of d
greater_twice p q d e = omega (arith, ints, clamps)

-- the gap by sizes alone
pub gap_between-by_sizes : (a s : ℤ) → gap_between a s +ℤ gap_between a s ≡ (size_of s -ℤ size_of a) +ℤ size_of (s -ℤ a)
gap_between-by_sizes a s =
    let twice = greater_twice (above_zero s -ℤ above_zero a) (below_zero s -ℤ below_zero a) (s -ℤ a) (omega (arith, ints, above_less_below a, above_less_below s)) in
    omega (arith, ints)

pub benefit_merged-left : (a s : ℤ) → size_of (benefit_merged a s) ≤ℤ size_of a
benefit_merged-left a s = grind (arith, ints, clamps)

-- Rows of them.

pub rank_of-positive : (ss : List ℤ) → pos 0 ≤ℤ rank_of ss
rank_of-positive [] = omega (arith, ints)
rank_of-positive (s ∷ ss) = omega (arith, ints, size_of-positive s, rank_of-positive ss)

pub rank_of-append : (ss more : List ℤ) → rank_of (ss ++ more) ≡ rank_of ss +ℤ rank_of more
rank_of-append [] more = omega (arith, ints)
rank_of-append (s ∷ ss) more = omega (arith, ints, rank_of-append ss more)

pub rank_of-zeros : (n : ℕ) → rank_of (replicate n (pos 0)) ≡ pos 0
rank_of-zeros zero = refl
rank_of-zeros (suc n) = omega (arith, ints, rank_of-zeros n)

pub rank_of-drop : (k : ℕ) (ss : List ℤ) → rank_of (drop k ss) ≤ℤ rank_of ss
rank_of-drop zero ss = omega (arith, ints)
rank_of-drop (suc k) [] = omega (arith, ints)
rank_of-drop (suc k) (s ∷ ss) = omega (arith, ints, size_of-positive s, rank_of-drop k ss)

pub gains_of-most : (ss : List ℤ) (ds : List ℕ) → gains_of ss ds ≤ℤ rank_of ss
gains_of-most [] ds = omega (arith, ints)
gains_of-most (s ∷ ss) [] = rank_of-positive (s ∷ ss)
gains_of-most (s ∷ ss) (d ∷ ds) = omega (arith, ints, choice_gain-most s d, gains_of-most ss ds)

-- a row has no gap to itself
pub gap_of-self : (ss : List ℤ) → gap_of ss ss ≡ pos 0
gap_of-self [] = refl
gap_of-self (s ∷ ss) = omega (arith, ints, gap_between-self s, gap_of-self ss)

pub gap_of-positive : (as_ ss : List ℤ) → pos 0 ≤ℤ gap_of as_ ss
gap_of-positive [] ss = omega (arith, ints)
gap_of-positive (a ∷ as_) [] = omega (arith, ints)
gap_of-positive (a ∷ as_) (s ∷ ss) = omega (arith, ints, gap_between-positive a s, gap_of-positive as_ ss)

pub gap_of-most : (as_ ss : List ℤ) → gap_of as_ ss ≤ℤ rank_of ss
gap_of-most [] ss = rank_of-positive ss
gap_of-most (a ∷ as_) [] = omega (arith, ints)
gap_of-most (a ∷ as_) (s ∷ ss) = omega (arith, ints, gap_between-most a s, gap_of-most as_ ss)

-- gaps add up along a chain
pub gap_of-chain : (as_ bs cs : List ℤ) → length as_ ≡ length bs → length bs ≡ length cs → gap_of as_ cs ≤ℤ (gap_of as_ bs +ℤ gap_of bs cs)
gap_of-chain [] bs cs p q = omega (arith, ints, gap_of-positive bs cs)
gap_of-chain (a ∷ as_) [] cs p q = absurd (omega arith)
gap_of-chain (a ∷ as_) (b ∷ bs) [] p q = absurd (omega arith)
gap_of-chain (a ∷ as_) (b ∷ bs) (c ∷ cs) p q =
    omega (arith, ints, gap_between-chain a b c, gap_of-chain as_ bs cs (omega arith) (omega arith))

-- the same choices gain from the second row at most the gap more than from the first
pub gap_of-bounds : (as_ ss : List ℤ) (ds : List ℕ) → length as_ ≡ length ss → gains_of ss ds ≤ℤ (gains_of as_ ds +ℤ gap_of as_ ss)
gap_of-bounds [] [] ds p = omega (arith, ints)
gap_of-bounds [] (s ∷ ss) ds p = absurd (omega arith)
gap_of-bounds (a ∷ as_) [] ds p = absurd (omega arith)
gap_of-bounds (a ∷ as_) (s ∷ ss) [] p = omega (arith, ints, gap_of-positive (a ∷ as_) (s ∷ ss))
gap_of-bounds (a ∷ as_) (s ∷ ss) (d ∷ ds) p =
    omega (arith, ints, gap_between-bounds a s d, gap_of-bounds as_ ss ds (omega arith))

pub differences-most : (as_ ss : List ℤ) → rank_of (differences as_ ss) ≤ℤ (rank_of as_ +ℤ rank_of ss)
differences-most [] ss = omega (arith, ints, rank_of-positive ss)
differences-most (a ∷ as_) [] = omega (arith, ints, rank_of-positive (a ∷ as_))
differences-most (a ∷ as_) (s ∷ ss) = omega (arith, ints, size_of-sub s a, differences-most as_ ss)

-- no rank exceeds another one by more than the sizes of the differences
pub rank_of-differences : (as_ ss : List ℤ) → length as_ ≡ length ss → rank_of ss ≤ℤ (rank_of as_ +ℤ rank_of (differences as_ ss))
rank_of-differences [] [] p = omega (arith, ints)
rank_of-differences [] (s ∷ ss) p = absurd (omega arith)
rank_of-differences (a ∷ as_) [] p = absurd (omega arith)
rank_of-differences (a ∷ as_) (s ∷ ss) p = omega (arith, ints, size_of-following a s, rank_of-differences as_ ss (omega arith))

pub length-differences : (as_ ss : List ℤ) → length as_ ≡ length ss → length (differences as_ ss) ≡ length as_
length-differences [] ss p = refl
length-differences (a ∷ as_) [] p = absurd (omega arith)
length-differences (a ∷ as_) (s ∷ ss) p = omega (arith, length-differences as_ ss (omega arith))

-- twice the gap is how much greater the second rank is, and the sizes of the differences
pub gap_of-by_sizes : (as_ ss : List ℤ) → length as_ ≡ length ss
    → gap_of as_ ss +ℤ gap_of as_ ss ≡ (rank_of ss -ℤ rank_of as_) +ℤ rank_of (differences as_ ss)
gap_of-by_sizes [] [] p = refl
gap_of-by_sizes [] (s ∷ ss) p = absurd (omega arith)
gap_of-by_sizes (a ∷ as_) [] p = absurd (omega arith)
gap_of-by_sizes (a ∷ as_) (s ∷ ss) p =
    omega (arith, ints, gap_between-by_sizes a s, gap_of-by_sizes as_ ss (omega arith))

pub length-merged_of : (as_ ss : List ℤ) → length as_ ≡ length ss → length (merged_of as_ ss) ≡ length as_
length-merged_of [] ss p = refl
length-merged_of (a ∷ as_) [] p = absurd (omega arith)
length-merged_of (a ∷ as_) (s ∷ ss) p = omega (arith, length-merged_of as_ ss (omega arith))

pub length-sums_of : (ss ps : List ℤ) → length ss ≡ length ps → length (sums_of ss ps) ≡ length ss
length-sums_of [] ps e = refl
length-sums_of (s ∷ ss) [] e = absurd (omega arith)
length-sums_of (s ∷ ss) (p ∷ ps) e = omega (arith, length-sums_of ss ps (omega arith))

-- the sums are no larger than the rows together
pub rank_of-sums_of : (ss as_ : List ℤ) → rank_of (sums_of ss as_) ≤ℤ (rank_of ss +ℤ rank_of as_)
rank_of-sums_of [] as_ = omega (arith, ints, rank_of-positive as_)
rank_of-sums_of (s ∷ ss) [] = omega (arith, ints, rank_of-positive (s ∷ ss))
rank_of-sums_of (s ∷ ss) (a ∷ as_) = omega (arith, ints, size_of-add s a, rank_of-sums_of ss as_)

-- rows of equal lengths are merged one after the other
pub merged_of-append : (as_ ss more rest : List ℤ) → length as_ ≡ length ss → merged_of (as_ ++ more) (ss ++ rest) ≡ merged_of as_ ss ++ merged_of more rest
merged_of-append [] [] more rest e = refl
merged_of-append [] (s ∷ ss) more rest e = absurd (omega arith)
merged_of-append (a ∷ as_) [] more rest e = absurd (omega arith)
merged_of-append (a ∷ as_) (s ∷ ss) more rest e = ap (λ zs. benefit_merged a s ∷ zs) (merged_of-append as_ ss more rest (omega arith))

pub merged_of-zeros : (n : ℕ) → merged_of (replicate n (pos 0)) (replicate n (pos 0)) ≡ replicate n (pos 0)
merged_of-zeros zero = refl
merged_of-zeros (suc n) = ap (λ zs. pos 0 ∷ zs) (merged_of-zeros n)

-- rows whose first k benefits are zero are merged after them
pub merged_of-following : (k : ℕ) (as_ ss : List ℤ) → take k as_ ≡ replicate k (pos 0) → take k ss ≡ replicate k (pos 0)
    → merged_of as_ ss ≡ take k as_ ++ merged_of (drop k as_) (drop k ss)
merged_of-following k as_ ss e f =
    let halves = merged_of-append (take k as_) (take k ss) (drop k as_) (drop k ss) (ap length (e ∙ sym f)) in
    let front : merged_of (take k as_) (take k ss) ≡ take k as_ = rw (e, f) (merged_of-zeros k) in
    rw (take-append-drop k as_, take-append-drop k ss, front) at halves
