-- Seen values, of which none is less than every number.
use Rattle.std.specs.Prelude.{ℤ, ◌≤ℤ◌, Option, None, Some}
use Rattle.std.specs.Int.{int_max}

-- the second is no less than the first, and none is less than every number
abbrev pub NoLess : Option ℤ → Option ℤ → Type 0
NoLess None after = Unit {0}
NoLess (Some x) None = ⊥
NoLess (Some x) (Some y) = x ≤ℤ y

-- the greater of two, and none is less than every number
abbrev pub greater : Option ℤ → Option ℤ → Option ℤ
greater None y = y
greater (Some x) None = Some x
greater (Some x) (Some y) = Some (int_max x y)
