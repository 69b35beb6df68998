-- The greatest of bounds.
use Rattle.std.specs.Prelude.{ℤ, cond, int_lt, Option, Some, None}

-- the greater of an option and a number, where none is less than every number
abbrev pub raised : Option ℤ → ℤ → Option ℤ
raised None z = Some z
raised (Some y) z = Some (cond (int_lt y z) z y)
