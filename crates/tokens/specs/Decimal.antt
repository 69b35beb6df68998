-- Numbers as they are printed.
use Rattle.std.specs.Prelude.{ℕ, List, [], ◌∷◌, ◌++◌, flat_map, ℤ, pos}
use Rattle.std.specs.Fmt.{signed_decimal}

-- the digits of a number with no leading zeros, after a minus where it is negative
abbrev pub decimal_of : ℤ → List ℕ
decimal_of z = signed_decimal z

-- a number and the space after it
abbrev pub spaced : ℕ → List ℕ
spaced n = decimal_of (pos n) ++ 32 ∷ []

-- a number and the end of its line
abbrev pub ended : ℤ → List ℕ
ended z = decimal_of z ++ 10 ∷ []

-- each number after a space
abbrev pub after_spaces : List ℕ → List ℕ
after_spaces ds = flat_map (λ d. 32 ∷ decimal_of (pos d)) ds
