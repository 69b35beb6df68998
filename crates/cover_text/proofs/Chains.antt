-- A chain of tokens, step by step: what it gives where there was a fault.
use Rattle.std.proofs.Common.{◌≡◌, ℕ, ◌-◌, ◌<◌, Bool, false, ◌∙◌, sym, refl}
use Rattle.std.specs.Prelude.{Result}
use Rattle.tokens.specs.Text.{TextState}
use Rattle.tokens.proofs.Chains.{until_more, until_ends, until_done, until_faults}
use Rattle.cover_text.specs.Grammar.{CoverError, part_then, passed_then, until, Fails}
use Rattle.cover_text.specs.declared.cover_error.CoverError.TheVariants.{Text, Word, OutOfMemory}

-- a fault of a part is the fault of the whole
pub part_fails : {A B : Type 0} (e : CoverError) (part : Result (A × TextState) CoverError) (more : A → TextState → Result B CoverError) → Fails e part → Fails e (part_then part more)
part_fails OutOfMemory part more fails = tt
part_fails (Text e) part more fails = rw fails refl
part_fails (Word p) part more fails = rw fails refl

pub passed_fails : {B : Type 0} (e : CoverError) (part : Result TextState CoverError) (more : TextState → Result B CoverError) → Fails e part → Fails e (passed_then part more)
passed_fails OutOfMemory part more fails = tt
passed_fails (Text e) part more fails = rw fails refl
passed_fails (Word p) part more fails = rw fails refl

-- a part has a fault, which is the fault of all
module _ {A : Type 0} (ends : TextState → Bool) (step : A → TextState → Result (A × TextState) CoverError) (count i : ℕ) (made : A) (s : TextState) where
  pub until_fails : (e : CoverError) (total : Result (A × TextState) CoverError) → ends s ≡ false → i < count → Fails e (step made s) → until ends step (count - i) made s ≡ total → Fails e total
  until_fails OutOfMemory total goes_on below fails so_far = tt
  until_fails (Text e) total goes_on below fails so_far = sym so_far ∙ until_faults ends step count i made s (Text e) goes_on below fails
  until_fails (Word p) total goes_on below fails so_far = sym so_far ∙ until_faults ends step count i made s (Word p) goes_on below fails

-- what a loop that reads part after part goes by
pub ruleset until_steps = (until_more, until_ends, until_done, until_fails)
