-- A chain of tokens, step by step: what it gives where there was a fault.
use Rattle.std.proofs.Common.{◌≡◌, ℕ, ◌-◌, ◌<◌, false, ◌∙◌, sym, refl}
use Rattle.std.specs.Prelude.{Bool, Result}
use Rattle.tokens.specs.Text.{TextState}
use Rattle.tokens.proofs.Chains.{until_more, until_ends, until_done, until_faults}
use Rattle.part_text.specs.Grammar.{InstanceError, ReadReportsError, part_then, passed_then, until, Fails}
use Rattle.part_text.specs.declared.read_reports_error.ReadReportsError.TheVariants.{Text, OutOfMemory}

-- a fault of a part is the fault of the whole
pub part_fails : {A B : Type 0} (e : ReadReportsError) (part : Result (A × TextState) InstanceError) (more : A → TextState → Result B InstanceError) → Fails e part → Fails e (part_then part more)
part_fails OutOfMemory part more fails = tt
part_fails (Text e) part more fails = rw fails refl

pub passed_fails : {B : Type 0} (e : ReadReportsError) (part : Result TextState InstanceError) (more : TextState → Result B InstanceError) → Fails e part → Fails e (passed_then part more)
passed_fails OutOfMemory part more fails = tt
passed_fails (Text e) part more fails = rw fails refl

-- a part has a fault, which is the fault of all
module _ {A : Type 0} (ends : TextState → Bool) (step : A → TextState → Result (A × TextState) InstanceError) (count i : ℕ) (made : A) (s : TextState) where
  pub until_fails : (e : ReadReportsError) (total : Result (A × TextState) InstanceError) → ends s ≡ false → i < count → Fails e (step made s) → until ends step (count - i) made s ≡ total → Fails e total
  until_fails OutOfMemory total goes_on below fails so_far = tt
  until_fails (Text e) total goes_on below fails so_far = sym so_far ∙ until_faults ends step count i made s e goes_on below fails

-- what a loop that reads part after part goes by
pub ruleset until_steps = (until_more, until_ends, until_done, until_fails)
