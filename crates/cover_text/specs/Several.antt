-- One or more whole texts, one after another, to the end of the input.
use Rattle.std.specs.Prelude.{ℕ, zero, suc, ◌-◌, min, Bool, true, cond, ◌&&◌, List, [], ◌∷◌, ◌++◌, length, take, drop, codes, Result, Ok}
use Rattle.tokens.specs.Text.{is_blank, is_at_end, text_start}
use Rattle.tokens.specs.declared.comment.Comment.TheVariants.{Never}
use Rattle.problem_names.specs.ModelNames.{word_same}
use Rattle.cover_text.specs.Grammar.{CoverError}
use Rattle.cover_text.specs.Instances.{end_place}
use Rattle.cover_text.specs.Texts.{CoverTextView, OpenView, and_then, moved_by, cover_after, held_with, opened}

-- whether a blank or nothing stands first
abbrev pub begins_blank : List ℕ → Bool
begins_blank [] = true
begins_blank (b ∷ bs) = is_blank b

-- whether the word end stands first
abbrev pub begins_end : List ℕ → Bool
begins_end bytes = word_same (take 3 bytes) (codes "end") && begins_blank (drop 3 bytes)

-- how many bytes there are up to the first word end, with this word and the blank after it; all bytes where there is no such word.
-- `starts` tells whether a word may begin here
abbrev pub size_to_end : Bool → List ℕ → ℕ
size_to_end starts [] = 0
size_to_end starts (b ∷ bs) = cond (starts && begins_end (b ∷ bs)) (min 4 (length (b ∷ bs))) (suc (size_to_end (is_blank b) bs))

-- how many bytes the sections of a text have, where further texts may stand after it
abbrev pub sections_size : List ℕ → ℕ
sections_size following = size_to_end true following

-- a text, and the bytes after it
pub record FirstView : Type 0 where
  pub text : CoverTextView
  pub rest : List ℕ

-- the text whose sections are these first bytes after its instance
abbrev pub text_to : OpenView → ℕ → Result FirstView CoverError
text_to o size = and_then (cover_after o.before (take size o.following)) (λ cover. Ok (record { text = held_with o cover; rest = drop size o.following }))

-- the first text, or its first fault
unfoldable pub first_text : List ℕ → Result FirstView CoverError
first_text bytes = and_then (opened bytes) (λ o. text_to o (sections_size o.following))

-- the first text of the bytes that are left of the whole input, with the places of its faults in the whole
unfoldable pub text_at : List ℕ → List ℕ → Result FirstView CoverError
text_at whole rest = moved_by (end_place (take (length whole - length rest) whole)) (first_text rest)

-- whether no token is left
abbrev pub is_over : List ℕ → Bool
is_over rest = is_at_end (text_start Never rest)

-- texts to the end of the input, at most this many, after those that were read
unfoldable pub texts_from : List ℕ → ℕ → List CoverTextView → List ℕ → Result (List CoverTextView) CoverError
texts_from whole zero read rest = Ok read
texts_from whole (suc n) read rest = cond (is_over rest) (Ok read) (and_then (text_at whole rest) (λ first. texts_from whole n (read ++ first.text ∷ []) first.rest))

-- all texts, of which there is at least one, and no more than bytes; or the first fault
unfoldable pub texts_of : List ℕ → Result (List CoverTextView) CoverError
texts_of bytes = and_then (text_at bytes bytes) (λ first. texts_from bytes (length bytes) (first.text ∷ []) first.rest)
