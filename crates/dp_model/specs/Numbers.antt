-- Numbers beside an option, where none is less than every number, and the size that every number of an instance keeps.
use Rattle.std.specs.Prelude.{◌^◌, ℤ, pos, ◌+ℤ◌, ◌≤ℤ◌, int_lt, int_le, Bool, true, cond, ◌&&◌, List, [], ◌∷◌, Option, Some, None}
use lib.IntN.{neg_ℤ}

-- the number is at most the option
abbrev pub AtMost : ℤ → Option ℤ → Type 0
AtMost z None = ⊥
AtMost z (Some bound) = z ≤ℤ bound

-- the first option is at most the second, and none is at most none too
abbrev pub OptionAtMost : Option ℤ → Option ℤ → Type 0
OptionAtMost None bound = Unit {0}
OptionAtMost (Some z) bound = AtMost z bound

-- whether the number is greater than the option
abbrev pub is_above : Option ℤ → ℤ → Bool
is_above None z = true
is_above (Some bound) z = int_lt bound z

-- the number and what the option has, or none
abbrev pub add_some : ℤ → Option ℤ → Option ℤ
add_some z None = None
add_some z (Some y) = Some (z +ℤ y)

-- the greatest of a number and a list of numbers
abbrev pub greatest_from : ℤ → List ℤ → ℤ
greatest_from z [] = z
greatest_from z (y ∷ ys) = greatest_from (cond (int_lt z y) y z) ys

-- the greatest number of a list, or none where it is empty
abbrev pub greatest : List ℤ → Option ℤ
greatest [] = None
greatest (z ∷ zs) = Some (greatest_from z zs)

-- whether two numbers are the same
abbrev pub int_same : ℤ → ℤ → Bool
int_same a b = int_le a b && int_le b a

-- at most 2^50 in size
pub record IsSmall (z : ℤ) : Type 0 where
  pub low : neg_ℤ (pos (2 ^ 50)) ≤ℤ z
  pub high : z ≤ℤ pos (2 ^ 50)

-- at most 2^62 in size
pub record IsFar (z : ℤ) : Type 0 where
  pub low : neg_ℤ (pos (2 ^ 62)) ≤ℤ z
  pub high : z ≤ℤ pos (2 ^ 62)
