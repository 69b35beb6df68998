-- Texts of tokens: where reading stands, the next token, and what it is read as.
use Rattle.std.specs.Prelude.{ℕ, ◌+◌, ◌-◌, ◌*◌, ◌^◌, ◌≤◌, List, [], ◌∷◌, length, drop, Bool, true, false, not, ◌&&◌, ◌||◌, ◌==◌, nat_le, if◌then◌else◌, Option, Some, None, option_map, Result, Ok, Err, ⊤, ℤ, pos, neg_ℤ, int_le, take_while}
use Rattle.std.specs.Str.{all_ascii_digits}
pub use Rattle.tokens.specs.declared.place.Place.{Place}
pub use Rattle.tokens.specs.declared.comment.Comment.{Comment}
use Rattle.tokens.specs.declared.comment.Comment.TheVariants.{Never, Hash, LetterC}
pub use Rattle.tokens.specs.declared.text_error.TextError.{TextError}
use Rattle.tokens.specs.declared.text_error.TextError.TheVariants.{NotNumber, OutOfRange, EndOfText, Trailing, NotAscii}

-- where reading stands: the bytes from here on, the place of the first of them, whether only blanks stand before it on its line, and which lines are comments
pub record TextState : Type 0 where
  pub rest : List ℕ
  pub place : Place
  pub fresh : Bool
  pub comment : Comment

-- so few bytes are left that line and column stay countable to the end
pub record IsCountable (place : Place) (bytes : List ℕ) : Type 0 where
  pub line_from_one : 1 ≤ place.line
  pub lines : place.line + length bytes ≤ 2 ^ 32 - 1
  pub columns : place.column + length bytes ≤ 2 ^ 32 - 1

-- the beginning of a text
abbrev pub text_start : Comment → List ℕ → TextState
text_start comment bytes = record { rest = bytes; place = record { line = 1; column = 1 }; fresh = true; comment = comment }

-- the blanks are space, tab, CR and LF
abbrev pub is_blank : ℕ → Bool
is_blank b = b == 32 || b == 9 || b == 13 || b == 10

-- whether a byte is no blank
abbrev pub is_solid : ℕ → Bool
is_solid b = not (is_blank b)

-- whether a byte that stands first on its line makes the line a comment
abbrev pub opens_comment : Comment → ℕ → Bool
opens_comment Never b = false
opens_comment Hash b = b == 35
opens_comment LetterC b = b == 99

-- the place after a byte: LF ends a line, and each other byte takes a column
abbrev pub place_after : ℕ → Place → Place
place_after b p = if b == 10 then record { line = p.line + 1; column = 1 } else record { line = p.line; column = p.column + 1 }

-- whether a byte is passed over: in a comment, a blank, or the first byte of a comment line
abbrev pub is_passed : Comment → Bool → Bool → ℕ → Bool
is_passed comment inside fresh b = inside || is_blank b || (fresh && opens_comment comment b)

-- whether a comment goes on after a byte that was passed over
abbrev pub is_inside_after : Bool → ℕ → Bool
is_inside_after inside b = (inside || is_solid b) && not (b == 10)

-- past blanks and comment lines, from inside a comment or outside
abbrev pub skip : Comment → Bool → Bool → Place → List ℕ → TextState
skip comment inside fresh place [] = record { rest = []; place = place; fresh = fresh; comment = comment }
skip comment inside fresh place (b ∷ bs) =
    elim (is_passed comment inside fresh b) [
      | true ↦ skip comment (is_inside_after inside b) (fresh || b == 10) (place_after b place) bs
      | false ↦ record { rest = b ∷ bs; place = place; fresh = fresh; comment = comment }
    ]

-- at the next token's first byte, or at the end of the text
unfoldable pub at_token : TextState → TextState
at_token s = skip s.comment false s.fresh s.place s.rest

-- the next token: the bytes up to a blank; none at the end of the text
unfoldable pub token : TextState → List ℕ
token s = take_while is_solid (at_token s).rest

-- after this many bytes of the line
abbrev pub past : ℕ → TextState → TextState
past n s = record { rest = drop n s.rest; place = record { line = s.place.line; column = s.place.column + n }; fresh = false; comment = s.comment }

-- right after the next token
unfoldable pub after_token : TextState → TextState
after_token s = past (length (token s)) (at_token s)

-- where the next token begins, or the end of the text
unfoldable pub place_of : TextState → Place
place_of s = (at_token s).place

-- whether no token is left
unfoldable pub is_at_end : TextState → Bool
is_at_end s = length (at_token s).rest == 0

-- whether only blanks stand before the line's end
abbrev pub is_blank_line : List ℕ → Bool
is_blank_line [] = true
is_blank_line (b ∷ bs) = b == 10 || (is_blank b && is_blank_line bs)

-- whether the line ends here
unfoldable pub ends_line : TextState → Bool
ends_line s = is_blank_line s.rest

-- the number that digits write after those of n
abbrev pub value_after : ℕ → List ℕ → ℕ
value_after n [] = n
value_after n (d ∷ ds) = value_after (10 * n + (d - 48)) ds

-- the number that one or more digits write
abbrev pub natural_of : List ℕ → Option ℕ
natural_of [] = None
natural_of (d ∷ ds) = if all_ascii_digits (d ∷ ds) then Some (value_after 0 (d ∷ ds)) else None

-- the number of a size, after a minus or not
abbrev pub signed_of : Bool → ℕ → ℤ
signed_of true n = neg_ℤ (pos n)
signed_of false n = pos n

-- the number that a token writes: an optional minus and one or more digits
unfoldable pub number_of : List ℕ → Option ℤ
number_of [] = None
number_of (b ∷ bs) = option_map (signed_of (b == 45)) (natural_of (if b == 45 then bs else b ∷ bs))

-- a number within a range, or its fault
abbrev pub in_bounds : ℤ → ℤ → Place → Option ℤ → Result ℤ TextError
in_bounds least greatest place None = Err (NotNumber place)
in_bounds least greatest place (Some z) = if int_le least z && int_le z greatest then Ok z else Err (OutOfRange place)

-- a token as a word
abbrev pub word_in : Place → List ℕ → Result (List ℕ) TextError
word_in place [] = Err (EndOfText place)
word_in place (b ∷ bs) = if nat_le 128 b then Err (NotAscii place) else Ok (b ∷ bs)

-- a token as a number of a range
abbrev pub number_in : ℤ → ℤ → Place → List ℕ → Result ℤ TextError
number_in least greatest place [] = Err (EndOfText place)
number_in least greatest place (b ∷ bs) = if nat_le 128 b then Err (NotAscii place) else in_bounds least greatest place (number_of (b ∷ bs))

-- no token, or the fault of one that is left
abbrev pub nothing_in : Place → List ℕ → Result ⊤ TextError
nothing_in place [] = Ok tt
nothing_in place (b ∷ bs) = if nat_le 128 b then Err (NotAscii place) else Err (Trailing place)

-- the next token as a number from least to greatest
unfoldable pub number_at : ℤ → ℤ → TextState → Result ℤ TextError
number_at least greatest s = number_in least greatest (place_of s) (token s)

-- the next token as a word
unfoldable pub word_at : TextState → Result (List ℕ) TextError
word_at s = word_in (place_of s) (token s)

-- the end of the text, where no token is left
unfoldable pub finish_at : TextState → Result ⊤ TextError
finish_at s = nothing_in (place_of s) (token s)
