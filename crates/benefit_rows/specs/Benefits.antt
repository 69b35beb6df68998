-- Signed benefits: what each of some yes-or-no choices gains by yes rather than by no.
use Rattle.std.specs.Prelude.{ℕ, zero, suc, ℤ, pos, neg_ℤ, ◌+ℤ◌, ◌-ℤ◌, List, [], ◌∷◌, ◌&&◌, int_le, if◌then◌else◌, Option, Some, None}
use Rattle.std.specs.Int.{int_max, int_min}

-- how far a benefit is above zero
abbrev pub above_zero : ℤ → ℤ
above_zero z = int_max z (pos 0)

-- how far a benefit is below zero
abbrev pub below_zero : ℤ → ℤ
below_zero z = int_max (neg_ℤ z) (pos 0)

-- the size of a benefit
abbrev pub size_of : ℤ → ℤ
size_of z = above_zero z +ℤ below_zero z

-- what a choice gains from a benefit: what is above zero by yes, what is below zero by no (0)
abbrev pub choice_gain : ℤ → ℕ → ℤ
choice_gain z zero = below_zero z
choice_gain z (suc _) = above_zero z

-- what the choices gain from a row of benefits
abbrev pub gains_of : List ℤ → List ℕ → ℤ
gains_of [] ds = pos 0
gains_of (z ∷ zs) [] = pos 0
gains_of (z ∷ zs) (d ∷ ds) = choice_gain z d +ℤ gains_of zs ds

-- the sum of the sizes
abbrev pub rank_of : List ℤ → ℤ
rank_of [] = pos 0
rank_of (z ∷ zs) = size_of z +ℤ rank_of zs

-- how much more one choice may gain from the benefit s than from a
abbrev pub gap_between : ℤ → ℤ → ℤ
gap_between a s = int_max (above_zero s -ℤ above_zero a) (below_zero s -ℤ below_zero a)

-- how much more the choices may gain from the second row than from the first
abbrev pub gap_of : List ℤ → List ℤ → ℤ
gap_of [] ss = pos 0
gap_of (a ∷ rest) [] = pos 0
gap_of (a ∷ rest) (s ∷ ss) = gap_between a s +ℤ gap_of rest ss

-- the lesser where both are at least zero, the greater where both are at most zero, else zero
abbrev pub benefit_merged : ℤ → ℤ → ℤ
benefit_merged a s =
    if int_le (pos 0) a && int_le (pos 0) s then int_min a s
    else (if int_le a (pos 0) && int_le s (pos 0) then int_max a s else pos 0)

-- the rows merged, component by component
abbrev pub merged_of : List ℤ → List ℤ → List ℤ
merged_of [] ss = []
merged_of (a ∷ rest) [] = []
merged_of (a ∷ rest) (s ∷ ss) = benefit_merged a s ∷ merged_of rest ss

-- how much each benefit of the second row exceeds that of the first
abbrev pub differences : List ℤ → List ℤ → List ℤ
differences [] ss = []
differences (a ∷ rest) [] = []
differences (a ∷ rest) (s ∷ ss) = (s -ℤ a) ∷ differences rest ss

-- the component-wise sums of two rows
abbrev pub sums_of : List ℤ → List ℤ → List ℤ
sums_of [] as_ = []
sums_of (s ∷ ss) [] = []
sums_of (s ∷ ss) (a ∷ as_) = (s +ℤ a) ∷ sums_of ss as_

-- the number where it is at most another one
abbrev pub where_at_most : ℤ → ℤ → Option ℤ
where_at_most most z = if int_le z most then Some z else None
