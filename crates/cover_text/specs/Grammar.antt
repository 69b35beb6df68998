-- Grammars of covers, as chains. No grammar answers want of memory.
use Rattle.std.specs.Prelude.{◌≡◌, ℕ, ◌-◌, ◌^◌, List, ℤ, pos, nat_abs, cond, Result, Ok, Err}
use Rattle.tokens.specs.declared.text_error.TextError.{TextError}
use Rattle.tokens.specs.declared.place.Place.{Place}
use Rattle.tokens.specs.Text.{TextState, word_at, place_of}
use Rattle.tokens.specs.Chain as chain
pub use Rattle.tokens.specs.Chain.{part_then, passed_then, never, stands}
unfoldable pub use Rattle.tokens.specs.Chain.{until}
use Rattle.problem_names.specs.ModelNames.{word_same}
pub use Rattle.cover_text.specs.declared.cover_error.CoverError.{CoverError}
use Rattle.cover_text.specs.declared.cover_error.CoverError.TheVariants.{Text, Word, OutOfMemory}

-- what was read goes on, and a fault ends the reading
abbrev pub read_then : {A B : Type 0} → Result A TextError → (A → Result B CoverError) → Result B CoverError
read_then read more = chain.read_then Text read more

-- a number from least to greatest, and what is read after it
abbrev pub number_then : {B : Type 0} → ℤ → ℤ → TextState → (ℤ → TextState → Result B CoverError) → Result B CoverError
number_then least greatest s more = chain.number_then Text least greatest s more

-- a word, and what is read after it
abbrev pub word_then : {B : Type 0} → TextState → (List ℕ → TextState → Result B CoverError) → Result B CoverError
word_then s more = chain.word_then Text s more

-- the end of the text
abbrev pub end_then : {B : Type 0} → TextState → Result B CoverError → Result B CoverError
end_then s outcome = chain.end_then Text s outcome

-- a fixed word
unfoldable pub fixed_at : List ℕ → TextState → Result TextState CoverError
fixed_at wanted s = word_then s (λ w t. cond (word_same w wanted) (Ok t) (Err (Word (place_of s))))

-- the fault at a place where a word is read that may not stand there
abbrev pub wrong_word : Place → Result (List ℕ) TextError → CoverError
wrong_word place (Ok w) = Word place
wrong_word place (Err e) = Text e

-- a line ends too early: the next token is wrong, whatever it is
unfoldable pub early_end : TextState → CoverError
early_end s = wrong_word (place_of s) (word_at s)

-- a number of 32 bits
unfoldable pub small_at : TextState → Result (ℕ × TextState) CoverError
small_at s = number_then (pos 0) (pos (2 ^ 32 - 1)) s (λ z t. Ok (nat_abs z, t))

-- an error is the fault that the grammar gives; want of memory may come anywhere
abbrev pub Fails : {Y : Type 0} → CoverError → Result Y CoverError → Type 0
Fails OutOfMemory read = Unit {0}
Fails (Text e) read = read ≡ Err (Text e)
Fails (Word p) read = read ≡ Err (Word p)

-- what a reader answers is what the grammar gives, but for want of memory
abbrev pub Reads : {X Y : Type 0} → (X → Y) → Result X CoverError → Result Y CoverError → Type 0
Reads view (Ok x) read = read ≡ Ok (view x)
Reads view (Err e) read = Fails e read
