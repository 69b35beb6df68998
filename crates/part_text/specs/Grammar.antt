-- Grammars of reports, as chains. No grammar answers want of memory.
use Rattle.std.specs.Prelude.{◌≡◌, ℕ, ◌-◌, ◌^◌, List, pos, nat_abs, cond, Option, Some, None, Result, Ok, Err}
use Rattle.tokens.specs.declared.place.Place.{Place}
use Rattle.tokens.specs.declared.instance_error.InstanceFault.TheVariants.{Word}
use Rattle.tokens.specs.Text.{TextState, place_of}
pub use Rattle.tokens.specs.declared.instance_error.InstanceError.{InstanceError}
pub use Rattle.tokens.specs.Grammar.{number_then, word_then, end_then}
pub use Rattle.tokens.specs.Chain.{part_then, passed_then, stands}
unfoldable pub use Rattle.tokens.specs.Chain.{until}
use Rattle.problem_names.specs.ModelNames.{word_same}
pub use Rattle.part_text.specs.declared.read_reports_error.ReadReportsError.{ReadReportsError}
use Rattle.part_text.specs.declared.read_reports_error.ReadReportsError.TheVariants.{Text, OutOfMemory}

-- the fault of a word that may not stand at this place
abbrev pub wrong_word : Place → InstanceError
wrong_word p = record { fault = Word; place = p }

-- a fixed word
unfoldable pub fixed_at : List ℕ → TextState → Result TextState InstanceError
fixed_at wanted s = word_then s (λ w t. cond (word_same w wanted) (Ok t) (Err (wrong_word (place_of s))))

-- a number of 32 bits
unfoldable pub small_at : TextState → Result (ℕ × TextState) InstanceError
small_at s = number_then (pos 0) (pos (2 ^ 32 - 1)) s (λ z t. Ok (nat_abs z, t))

-- what a word writes, or the fault where it writes nothing
abbrev pub written_or : {A : Type 0} → InstanceError → Option A → TextState → Result (A × TextState) InstanceError
written_or fault None t = Err fault
written_or fault (Some x) t = Ok (x, t)

-- an error is the fault that the grammar gives; want of memory may come anywhere
abbrev pub Fails : {Y : Type 0} → ReadReportsError → Result Y InstanceError → Type 0
Fails OutOfMemory read = Unit {0}
Fails (Text e) read = read ≡ Err e

-- what a reader answers is what the grammar gives, but for want of memory
abbrev pub Reads : {X Y : Type 0} → (X → Y) → Result X ReadReportsError → Result Y InstanceError → Type 0
Reads view (Ok x) read = read ≡ Ok (view x)
Reads view (Err e) read = Fails e read
