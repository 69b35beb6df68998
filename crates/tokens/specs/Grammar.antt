-- Grammars of instances, as chains.
use Rattle.std.specs.Prelude.{◌≡◌, ℕ, List, ℤ, Result, Ok, Err}
use Rattle.tokens.specs.Text.{TextState, TextError}
use Rattle.tokens.specs.Chain as chain
pub use Rattle.tokens.specs.Chain.{part_then, times}
use Rattle.tokens.specs.declared.text_error.TextError.TheVariants.{NotNumber, OutOfRange, EndOfText, Trailing, NotAscii}
use Rattle.tokens.specs.declared.instance_error.InstanceFault.TheVariants as faults
pub use Rattle.tokens.specs.declared.instance_error.InstanceFault.{InstanceFault}
pub use Rattle.tokens.specs.declared.instance_error.InstanceError.{InstanceError}
pub use Rattle.tokens.specs.declared.read_model_error.ReadModelError.{ReadModelError}
use Rattle.tokens.specs.declared.read_model_error.ReadModelError.TheVariants as errors

-- the same fault at the same place
abbrev pub of_text : TextError → InstanceError
of_text (NotNumber p) = record { fault = faults.NotNumber; place = p }
of_text (OutOfRange p) = record { fault = faults.OutOfRange; place = p }
of_text (EndOfText p) = record { fault = faults.EndOfText; place = p }
of_text (Trailing p) = record { fault = faults.Trailing; place = p }
of_text (NotAscii p) = record { fault = faults.NotAscii; place = p }

-- what was read goes on, and a fault ends the reading
abbrev pub read_then : {A B : Type 0} → Result A TextError → (A → Result B InstanceError) → Result B InstanceError
read_then read more = chain.read_then of_text read more

-- a number from least to greatest, and what is read after it
abbrev pub number_then : {B : Type 0} → ℤ → ℤ → TextState → (ℤ → TextState → Result B InstanceError) → Result B InstanceError
number_then least greatest s more = chain.number_then of_text least greatest s more

-- a word, and what is read after it
abbrev pub word_then : {B : Type 0} → TextState → (List ℕ → TextState → Result B InstanceError) → Result B InstanceError
word_then s more = chain.word_then of_text s more

-- the end of the text
abbrev pub end_then : {B : Type 0} → TextState → Result B InstanceError → Result B InstanceError
end_then s outcome = chain.end_then of_text s outcome

-- an error is the fault that the grammar gives; want of memory may come anywhere
abbrev pub Fails : {Y : Type 0} → ReadModelError → Result Y InstanceError → Type 0
Fails (errors.Text e) read = read ≡ Err e
Fails errors.OutOfMemory read = Unit {0}

-- what a reader answers is what the grammar gives, but for want of memory
abbrev pub Reads : {X Y : Type 0} → (X → Y) → Result X ReadModelError → Result Y InstanceError → Type 0
Reads view (Ok x) read = read ≡ Ok (view x)
Reads view (Err e) read = Fails e read
