-- Chains of readings: a token or a part, and what is read after it. Each grammar has errors of its own, and says which one the fault of a token is.
use Rattle.std.specs.Prelude.{ℕ, zero, suc, List, ℤ, Bool, false, nat_eq, cond, Result, Ok, Err}
use Rattle.std.specs.Cmp.Lexicographic.{pointwise}
use Rattle.tokens.specs.Text.{TextState, TextError, token, number_at, word_at, finish_at, after_token}

-- whether the next token is this word
abbrev pub stands : List ℕ → TextState → Bool
stands word s = pointwise nat_eq (token s) word

-- what was read goes on, and a fault ends the reading
abbrev pub read_then : {A B E : Type 0} → (TextError → E) → Result A TextError → (A → Result B E) → Result B E
read_then fault (Ok x) more = more x
read_then fault (Err e) more = Err (fault e)

-- a number from least to greatest, and what is read after it
abbrev pub number_then : {B E : Type 0} → (TextError → E) → ℤ → ℤ → TextState → (ℤ → TextState → Result B E) → Result B E
number_then fault least greatest s more = read_then fault (number_at least greatest s) (λ z. more z (after_token s))

-- a word, and what is read after it
abbrev pub word_then : {B E : Type 0} → (TextError → E) → TextState → (List ℕ → TextState → Result B E) → Result B E
word_then fault s more = read_then fault (word_at s) (λ w. more w (after_token s))

-- the end of the text
abbrev pub end_then : {B E : Type 0} → (TextError → E) → TextState → Result B E → Result B E
end_then fault s outcome = read_then fault (finish_at s) (λ _. outcome)

-- a part of the text, with where reading stands after it, and what is read after it
abbrev pub part_then : {A B E : Type 0} → Result (A × TextState) E → (A → TextState → Result B E) → Result B E
part_then (Ok (x, s)) more = more x s
part_then (Err e) more = Err e

-- a part that is passed over, and what is read after it
abbrev pub passed_then : {B E : Type 0} → Result TextState E → (TextState → Result B E) → Result B E
passed_then (Ok s) more = more s
passed_then (Err e) more = Err e

-- parts up to where they end, at most this many, each read with what was made of those before it
unfoldable pub until : {A E : Type 0} → (TextState → Bool) → (A → TextState → Result (A × TextState) E) → ℕ → A → TextState → Result (A × TextState) E
until ends step zero made s = Ok (made, s)
until ends step (suc n) made s = cond (ends s) (Ok (made, s)) (part_then (step made s) (λ more t. until ends step n more t))

-- parts that don't end but by their number
abbrev pub never : TextState → Bool
never s = false

-- a part that stands this many times, each read with what was made of those before it
unfoldable pub times : {A E : Type 0} → (A → TextState → Result (A × TextState) E) → ℕ → A → TextState → Result (A × TextState) E
times step n made s = until never step n made s
