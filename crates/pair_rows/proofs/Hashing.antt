-- Hashes: polynomials of rows, cell by cell and after a step.
use Rattle.std.proofs.Common.{◌≡◌, ℕ, zero, suc, ◌+◌, ◌-◌, ◌*◌, ◌%◌, ◌^◌, ◌<◌, ◌≤◌, ℤ, pos, ◌+ℤ◌, ◌-ℤ◌, neg_ℤ, FitsSigned, to_z, of_z, w64, List, [], ◌∷◌, ◌++◌, length, take, drop, map, replicate, get_or, mod-lt, refl, arith, ap, ap₂, sym, subst, ◌∙◌, append_assoc}
use Rattle.std.specs.Int.{int_wrap}
use Rattle.std.specs.Prelude.{◌*ℤ◌}
use Rattle.std.proofs.Math.Seq.{drop-append_seam}
use Rattle.std.proofs.lemmas.Int.{ints, to_z-of_z, int_wrap-add_left, int_wrap-add_right, int_wrap-mul_left, int_wrap-mul_right, wrapping_add_onto, wrapping_mul_onto, wrapping_sub_is, wrapping_mul_is, SFits-int_wrap}
use Rattle.std.proofs.lemmas.List.{drop_more, drop_all, append-nil, length-map, length-replicate}
use Rattle.benefit_rows.specs.Benefits.{sums_of}
use Rattle.pair_rows.specs.declared.values.PairValues.{PairValues}
use Rattle.pair_rows.specs.Hashes.{base, inverse, polynomial}
use Rattle.pair_rows.specs.Pairs.{row_at, rows_of}
use Rattle.pair_rows.specs.Program.{row_step}
use Rattle.pair_rows.specs.Shifts.{change_of, shifts_of}
use Rattle.pair_rows.specs.Laws.Pairs.{drop-rows, length-rows_of, row_at-is}
use Rattle.pair_rows.proofs.Shifting.{shifts-row}
use Rattle.pair_rows.proofs.Writing.{step-shifts}

-- ---- wrapped numbers

-- a product and a sum on the way may wrap
pub wrapped-cell : (others cell : ℤ) → int_wrap w64 (int_wrap w64 (int_wrap w64 others *ℤ base) +ℤ cell) ≡ int_wrap w64 ((others *ℤ base) +ℤ cell)
wrapped-cell others cell = ap (λ z. int_wrap w64 (z +ℤ cell)) (int_wrap-mul_left w64 others base) ∙ int_wrap-add_left w64 (others *ℤ base) cell

base-fits : FitsSigned w64 base
base-fits = record { sfits = omega arith }

-- the same, as words of 64 bits are computed
pub cell-wraps : (others rest cell : ℤ) → FitsSigned w64 rest → FitsSigned w64 cell → rest ≡ int_wrap w64 others
    → to_z w64 (((of_z w64 rest * of_z w64 base) % 2 ^ 64 + of_z w64 cell) % 2 ^ 64) ≡ int_wrap w64 ((others *ℤ base) +ℤ cell)
cell-wraps others rest cell rest_fits cell_fits is =
    wrapping_add_onto w64 ((of_z w64 rest * of_z w64 base) % 2 ^ 64) cell (mod-lt (of_z w64 rest * of_z w64 base) (omega arith)) cell_fits
    ∙ (ap (λ z. int_wrap w64 (z +ℤ cell)) (wrapping_mul_is w64 rest base rest_fits base-fits ∙ ap (λ z. int_wrap w64 (z *ℤ base)) is) ∙ wrapped-cell others cell)

turned : int_wrap w64 (base *ℤ inverse) ≡ pos 1
unfolding int_wrap
turned = refl

by-both : (z : ℤ) → (z *ℤ base) *ℤ inverse ≡ z *ℤ (base *ℤ inverse)
by-both z = omega (arith, ints)

by-one : (z : ℤ) → z *ℤ pos 1 ≡ z
by-one z = omega (arith, ints)

-- the inverse takes the base away
pub wrapped-back : (z : ℤ) → int_wrap w64 (int_wrap w64 (z *ℤ base) *ℤ inverse) ≡ int_wrap w64 z
wrapped-back z =
    int_wrap-mul_left w64 (z *ℤ base) inverse
    ∙ (ap (int_wrap w64) (by-both z)
    ∙ (sym (int_wrap-mul_right w64 z (base *ℤ inverse)) ∙ (ap (λ y. int_wrap w64 (z *ℤ y)) turned ∙ ap (int_wrap w64) (by-one z))))

taken-off : (a b : ℤ) → a -ℤ b ≡ a +ℤ neg_ℤ b
taken-off a b = omega (arith, ints)

left-over : (a b : ℤ) → (a +ℤ b) +ℤ neg_ℤ b ≡ a
left-over a b = omega (arith, ints)

-- the first number goes
pub wrapped-less : (a b : ℤ) → int_wrap w64 (int_wrap w64 (a +ℤ b) -ℤ b) ≡ int_wrap w64 a
wrapped-less a b = ap (int_wrap w64) (taken-off (int_wrap w64 (a +ℤ b)) b) ∙ (int_wrap-add_left w64 (a +ℤ b) (neg_ℤ b) ∙ ap (int_wrap w64) (left-over a b))

pub wrapped-next : (others first more : ℤ) → int_wrap w64 (int_wrap w64 (int_wrap w64 (int_wrap w64 ((others *ℤ base) +ℤ first) -ℤ first) *ℤ inverse) +ℤ int_wrap w64 more) ≡ int_wrap w64 (others +ℤ more)
wrapped-next others first more =
    ap (λ z. int_wrap w64 (int_wrap w64 (z *ℤ inverse) +ℤ int_wrap w64 more)) (wrapped-less (others *ℤ base) first)
    ∙ (ap (λ z. int_wrap w64 (z +ℤ int_wrap w64 more)) (wrapped-back others)
    ∙ (int_wrap-add_left w64 others (int_wrap w64 more) ∙ int_wrap-add_right w64 others more))

inverse-fits : FitsSigned w64 inverse
inverse-fits = record { sfits = omega arith }

-- the hash as a signed word
pub signed-whole : (z : ℤ) (hash : ℕ) (signed : ℤ) → signed ≡ to_z w64 hash → hash ≡ of_z w64 (int_wrap w64 z) → signed ≡ int_wrap w64 z
signed-whole z hash signed is hash_is = is ∙ (ap (to_z w64) hash_is ∙ to_z-of_z w64 (int_wrap w64 z) (SFits-int_wrap w64 z))

-- the same, as words of 64 bits are computed
pub next-wraps : (others first more change signed : ℤ) → FitsSigned w64 signed → FitsSigned w64 first → FitsSigned w64 change → signed ≡ int_wrap w64 ((others *ℤ base) +ℤ first) → change ≡ int_wrap w64 more
    → to_z w64 (((((of_z w64 signed + (2 ^ 64 - of_z w64 first)) % 2 ^ 64) * of_z w64 inverse) % 2 ^ 64 + of_z w64 change) % 2 ^ 64) ≡ int_wrap w64 (others +ℤ more)
next-wraps others first more change signed signed_fits first_fits change_fits signed_is change_is =
    let whole : ℤ = (others *ℤ base) +ℤ first in
    let one : ℕ = (of_z w64 signed + (2 ^ 64 - of_z w64 first)) % 2 ^ 64 in
    let two : ℕ = (one * of_z w64 inverse) % 2 ^ 64 in
    let less : to_z w64 one ≡ int_wrap w64 (int_wrap w64 whole -ℤ first) = wrapping_sub_is w64 signed first signed_fits first_fits ∙ ap (λ z. int_wrap w64 (z -ℤ first)) signed_is in
    let back : to_z w64 two ≡ int_wrap w64 (int_wrap w64 (int_wrap w64 whole -ℤ first) *ℤ inverse) =
    wrapping_mul_onto w64 one inverse (mod-lt (of_z w64 signed + (2 ^ 64 - of_z w64 first)) (omega arith)) inverse-fits ∙ ap (λ z. int_wrap w64 (z *ℤ inverse)) less in
    wrapping_add_onto w64 two change (mod-lt (one * of_z w64 inverse) (omega arith)) change_fits
    ∙ (ap₂ (λ y z. int_wrap w64 (y +ℤ z)) back change_is ∙ wrapped-next others first more)

-- as a word of 64 bits is read
pub wrapped-read : (z y : ℤ) → z ≡ int_wrap w64 y → to_z w64 (of_z w64 z) ≡ z
wrapped-read z y is = to_z-of_z w64 z (subst (FitsSigned w64) (sym is) (SFits-int_wrap w64 y))

-- ---- a row, cell by cell

pub polynomial-more : (row : List ℤ) (i : ℕ) → i < length row → polynomial (drop i row) ≡ (polynomial (drop (i + 1) row) *ℤ base) +ℤ get_or row i (pos 0)
polynomial-more row i h = ap polynomial (drop_more row i (pos 0) h)

pub polynomial-before : (row : List ℤ) (i : ℕ) → 0 < i → i ≤ length row → polynomial (drop (i - 1) row) ≡ (polynomial (drop i row) *ℤ base) +ℤ get_or row (i - 1) (pos 0)
polynomial-before row i some h =
    let one : (i - 1) + 1 ≡ i = omega arith in
    polynomial-more row (i - 1) (omega arith) ∙ ap (λ n. (polynomial (drop n row) *ℤ base) +ℤ get_or row (i - 1) (pos 0)) one

pub polynomial-sums : (xs ys : List ℤ) → length xs ≡ length ys → polynomial (sums_of xs ys) ≡ polynomial xs +ℤ polynomial ys
polynomial-sums [] [] e = omega (arith, ints)
polynomial-sums [] (y ∷ ys) e = absurd (omega arith)
polynomial-sums (x ∷ xs) [] e = absurd (omega arith)
polynomial-sums (x ∷ xs) (y ∷ ys) e = omega (arith, ints, polynomial-sums xs ys (omega arith))

-- ---- a step

pub open-first : (s : List ℤ) (k : ℕ) → k < length s → polynomial (drop k s) ≡ (polynomial (drop (k + 1) s) *ℤ base) +ℤ get_or s k (pos 0)
open-first s k h = polynomial-more s k h

behind-zeros : (k : ℕ) (xs : List ℤ) → drop (k + 1) (replicate (k + 1) (pos 0) ++ xs) ≡ xs
behind-zeros k xs =
    ap (λ (n : ℕ). drop n (replicate (k + 1) (pos 0) ++ xs)) (sym (length-replicate (k + 1) (pos 0))) ∙ drop-append_seam (replicate (k + 1) (pos 0)) xs

pub hash-step : (row : List PairValues) (s : List ℤ) (k d : ℕ) → k < length s → take k s ≡ replicate k (pos 0) → length (drop (k + 1) s) ≡ length (shifts_of d row)
    → polynomial (drop (k + 1) (take k s ++ row_step row (drop k s) d)) ≡ polynomial (drop (k + 1) s) +ℤ polynomial (shifts_of d row)
hash-step row s k d h none sizes =
    ap (λ l. polynomial (drop (k + 1) l)) (sym (step-shifts row s k d h none))
    ∙ (ap polynomial (behind-zeros k (sums_of (drop (k + 1) s) (shifts_of d row))) ∙ polynomial-sums (drop (k + 1) s) (shifts_of d row) sizes)

-- ---- what the shifts add

pub mapped-more : {X : Type 0} (f : List X → ℤ) (rows : List (List X)) (k : ℕ) (items : List ℤ) (cell : ℤ) → k < length rows → cell ≡ f (row_at rows k)
    → items ++ map f (drop k rows) ≡ map f rows → (items ++ cell ∷ []) ++ map f (drop (k + 1) rows) ≡ map f rows
mapped-more f rows k items cell h is before =
    let one : suc k ≡ k + 1 = omega arith in
    let cut : map f (drop k rows) ≡ f (row_at rows k) ∷ map f (drop (k + 1) rows) = ap (map f) (drop-rows rows k h) ∙ ap (λ m. f (row_at rows k) ∷ map f (drop m rows)) one in
    append_assoc items (cell ∷ []) (map f (drop (k + 1) rows)) ∙ rw is (rw cut at before)

pub mapped-done : {X : Type 0} (f : List X → ℤ) (rows : List (List X)) (k : ℕ) (items : List ℤ) → length rows ≤ k → items ++ map f (drop k rows) ≡ map f rows → items ≡ map f rows
mapped-done f rows k items h before =
    let none : drop k rows ≡ [] = drop_all k rows h in
    sym (append-nil items) ∙ rw none at before

mapped-at : {X : Type 0} (f : List X → ℤ) (rows : List (List X)) (k : ℕ) (z : ℤ) → k < length rows → get_or (map f rows) k z ≡ f (row_at rows k)
mapped-at f [] k z h = absurd (omega arith)
mapped-at f (row ∷ rows) zero z h = refl
mapped-at f (row ∷ rows) (suc k) z h = mapped-at f rows k z (omega arith)

row-shifts : (d n k : ℕ) (ps : List PairValues) (cells : List ℤ) → k < n → cells ≡ shifts_of d ps → row_at (rows_of n cells) k ≡ shifts_of d (row_at (rows_of n ps) k)
row-shifts d n k ps cells h is = row_at-is n k cells h ∙ shifts-row d n k ps cells h is

pub change-at : (d n k : ℕ) (ps : List PairValues) (cells changes : List ℤ) (z : ℤ) → k < n → cells ≡ shifts_of d ps → changes ≡ map change_of (rows_of n cells) → z ≡ get_or changes k z
    → z ≡ change_of (shifts_of d (row_at (rows_of n ps) k))
change-at d n k ps cells changes z h cells_are is at =
    at ∙ (ap (λ zs. get_or zs k z) is ∙ (mapped-at change_of (rows_of n cells) k z (omega (arith, length-rows_of n cells)) ∙ ap change_of (row-shifts d n k ps cells h cells_are)))

pub changes-length : (n : ℕ) (cells changes : List ℤ) → changes ≡ map change_of (rows_of n cells) → length changes ≡ n
changes-length n cells changes is = ap length is ∙ (length-map (rows_of n cells) change_of ∙ length-rows_of n cells)
