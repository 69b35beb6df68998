-- Counts: natural numbers of few digits.
use Rattle.std.specs.Prelude.{ℕ, List, length, Bool, not, ◌&&◌, nat_le, nat_eq}
use Rattle.std.specs.Str.{all_ascii_digits}
use Rattle.tokens.specs.declared.count.TheConstants.{MOST_DIGITS}

-- whether a word is 1 to MOST_DIGITS digits
abbrev pub is_count : List ℕ → Bool
is_count w = not (nat_eq (length w) 0) && nat_le (length w) MOST_DIGITS && all_ascii_digits w
