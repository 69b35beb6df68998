-- The bytes of the instance, which begin after a line's end, and the places after them.
use Rattle.std.specs.Prelude.{ℕ, zero, suc, ◌+◌, ◌-◌, ◌^◌, min, List, [], ◌∷◌, length, take, drop, nat_le, nat_eq, cond, Result, Ok, Err}
use Rattle.tokens.specs.declared.place.Place.{Place}
use Rattle.tokens.specs.declared.text_error.TextError.{TextError}
use Rattle.tokens.specs.Text.{place_after}
use Rattle.tokens.specs.declared.text_error.TextError.TheVariants.{NotNumber, OutOfRange, EndOfText, Trailing, NotAscii}
use Rattle.cover_text.specs.Grammar.{CoverError}
use Rattle.cover_text.specs.declared.cover_error.CoverError.TheVariants.{Text, Word, OutOfMemory}

-- the bytes after this many lines, of which each ends at LF
abbrev pub after_lines : ℕ → List ℕ → List ℕ
after_lines lines [] = []
after_lines zero (b ∷ bs) = b ∷ bs
after_lines (suc lines) (b ∷ bs) = after_lines (cond (nat_eq b 10) lines (suc lines)) bs

-- the place after bytes that begin at a place
abbrev pub place_following : Place → List ℕ → Place
place_following p [] = p
place_following p (b ∷ bs) = place_following (place_after b p) bs

-- the place after all bytes of a text
abbrev pub end_place : List ℕ → Place
end_place bytes = place_following (record { line = 1; column = 1 }) bytes

-- the instance and what stands after it: this many bytes after this many lines
abbrev pub parted : List ℕ → ℕ → ℕ → Result (List ℕ × List ℕ) CoverError
parted bytes lines size =
    cond (nat_le size (length (after_lines lines bytes)))
    (Ok (take size (after_lines lines bytes), drop size (after_lines lines bytes)))
    (Err (Text (EndOfText (end_place bytes))))

-- a place of the part that begins at the origin, seen from the beginning of the text; a number has 32 bits
abbrev pub moved_place : Place → Place → Place
moved_place origin p =
    cond (nat_eq p.line 1)
    (record { line = origin.line; column = min (origin.column + (p.column - 1)) (2 ^ 32 - 1) })
    (record { line = min (origin.line + (p.line - 1)) (2 ^ 32 - 1); column = p.column })

-- the same fault at a place after another text
abbrev pub moved_text : Place → TextError → TextError
moved_text origin (NotNumber p) = NotNumber (moved_place origin p)
moved_text origin (OutOfRange p) = OutOfRange (moved_place origin p)
moved_text origin (EndOfText p) = EndOfText (moved_place origin p)
moved_text origin (Trailing p) = Trailing (moved_place origin p)
moved_text origin (NotAscii p) = NotAscii (moved_place origin p)

-- a fault of that part
abbrev pub moved : Place → CoverError → CoverError
moved origin (Text e) = Text (moved_text origin e)
moved origin (Word p) = Word (moved_place origin p)
moved origin OutOfMemory = OutOfMemory
