-- A chain of tokens, step by step: what it gives where a token was read, and where there was a fault.
use Rattle.std.proofs.Common.{◌≡◌, ℕ, suc, ◌+◌, ◌-◌, ◌<◌, ◌≤◌, Bool, true, false, ℤ, ◌∙◌, sym, refl, arith}
use Rattle.std.specs.Prelude.{Result, Ok, Err}
use Rattle.tokens.specs.Text.{TextState, number_at, finish_at, after_token}
use Rattle.tokens.specs.Chain.{part_then, until, never, times}
use Rattle.tokens.specs.Grammar.{InstanceError, number_then, end_then, Fails, ReadModelError}
use Rattle.tokens.specs.declared.read_model_error.ReadModelError.TheVariants as errors

-- ---- whatever the errors are

module _ {A E : Type 0} (ends : TextState → Bool) (step : A → TextState → Result (A × TextState) E) (count i : ℕ) (made : A) (s : TextState) where
  -- the one after i is read
  pub until_more : (next : A) (t : TextState) → ends s ≡ false → i < count → step made s ≡ Ok (next, t) → until ends step (count - i) made s ≡ until ends step (count - (i + 1)) next t
  unfolding until
  until_more next t goes_on below read =
      let left : count - i ≡ suc (count - (i + 1)) = omega arith in
      rw (left, goes_on, read) refl

  -- the parts end here
  pub until_ends : ends s ≡ true → i < count → until ends step (count - i) made s ≡ Ok (made, s)
  unfolding until
  until_ends over below =
      let left : count - i ≡ suc (count - (i + 1)) = omega arith in
      rw (left, over) refl

  -- it has a fault, which is the fault of all
  pub until_faults : (fault : E) → ends s ≡ false → i < count → step made s ≡ Err fault → until ends step (count - i) made s ≡ Err fault
  unfolding until
  until_faults fault goes_on below fails =
      let left : count - i ≡ suc (count - (i + 1)) = omega arith in
      rw (left, goes_on, fails) refl

  -- none is left
  pub until_done : count ≤ i → until ends step (count - i) made s ≡ Ok (made, s)
  unfolding until
  until_done all =
      let left : count - i ≡ 0 = omega arith in
      rw left refl

-- of count times, the one after i is read
pub times_more : {A E : Type 0} (step : A → TextState → Result (A × TextState) E) (count i : ℕ) (made next : A) (s t : TextState) → i < count → step made s ≡ Ok (next, t) → times step (count - i) made s ≡ times step (count - (i + 1)) next t
unfolding times
times_more step count i made next s t below read = until_more never step count i made s next t refl below read

-- none is left
pub times_done : {A E : Type 0} (step : A → TextState → Result (A × TextState) E) (count i : ℕ) (made : A) (s : TextState) → count ≤ i → times step (count - i) made s ≡ Ok (made, s)
unfolding times
times_done step count i made s all = until_done never step count i made s all

-- ---- readers of instances

-- after a number the chain goes on
pub number_then_ok : {B : Type 0} (least greatest z : ℤ) (s : TextState) (more : ℤ → TextState → Result B InstanceError) → Ok z ≡ number_at least greatest s → number_then least greatest s more ≡ more z (after_token s)
number_then_ok least greatest z s more e = rw (← e) refl

pub end_then_ok : {B : Type 0} (s : TextState) (outcome : Result B InstanceError) → Ok tt ≡ finish_at s → end_then s outcome ≡ outcome
end_then_ok s outcome e = rw (← e) refl

-- a part has a fault, which is the fault of all
pub times_fails : {A : Type 0} (e : ReadModelError) (step : A → TextState → Result (A × TextState) InstanceError) (count i : ℕ) (made : A) (s : TextState) (total : Result (A × TextState) InstanceError) → i < count → Fails e (step made s) → times step (count - i) made s ≡ total → Fails e total
unfolding times
times_fails errors.OutOfMemory step count i made s total below fails so_far = tt
times_fails (errors.Text fault) step count i made s total below fails so_far = sym so_far ∙ until_faults never step count i made s fault refl below fails

-- the same of a loop that reads this many, where reading has come to the one after i
pub times_refused : {A : Type 0} (e : ReadModelError) (step : A → TextState → Result (A × TextState) InstanceError) (count i : ℕ) (first made : A) (start s : TextState)
    → times step (count - i) made s ≡ times step count first start → i < count → Fails e (step made s) → Fails e (times step count first start)
times_refused e step count i first made start s so_far below fails = times_fails e step count i made s (times step count first start) below fails so_far

-- a fault of a part is the fault of the whole
pub part_fails : {A B : Type 0} (e : ReadModelError) (part : Result (A × TextState) InstanceError) (more : A → TextState → Result B InstanceError) → Fails e part → Fails e (part_then part more)
part_fails errors.OutOfMemory part more fails = tt
part_fails (errors.Text fault) part more fails = rw fails refl

-- what a loop that reads part after part goes by
pub ruleset times_steps = (times_more, times_done, times_refused)
