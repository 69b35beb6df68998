-- The first token of bytes, and the digits at their head.
use Rattle.std.specs.Prelude.{◌≡◌, ℕ, List, length, drop, take_while}
use Rattle.std.specs.Char.{is_ascii_digit}
use Rattle.tokens.specs.Text.{TextState, Place, is_solid, at_token}

-- the bytes up to the first blank
abbrev pub first_token : List ℕ → List ℕ
first_token bytes = take_while is_solid bytes

-- the bytes from the first blank on
abbrev pub following_token : List ℕ → List ℕ
following_token bytes = drop (length (first_token bytes)) bytes

-- the digits before the first byte that is none
abbrev pub head_digits : List ℕ → List ℕ
head_digits bytes = take_while is_ascii_digit bytes

-- the bytes from the first one on that is no digit
abbrev pub after_digits : List ℕ → List ℕ
after_digits bytes = drop (length (head_digits bytes)) bytes

-- the next token begins at these bytes and this place, or the text ends there
pub record IsNextToken (s : TextState) (rest : List ℕ) (place : Place) : Type 0 where
  pub rest_is : (at_token s).rest ≡ rest
  pub place_is : (at_token s).place ≡ place
  pub comment_is : (at_token s).comment ≡ s.comment
