-- Rounds on a board, one after another.
use Rattle.std.proofs.Common.{◌≡◌, ℕ, ◌+◌, ◌-◌, ◌^◌, ◌<◌, ◌≤◌, [], ◌∷◌, ◌++◌, length, slice_get, slice_set, Bool, true, false, ◌||◌, nat_eq, nat_lt, Some, None, option_map, IsTrue, refl, sym, ◌∙◌, ap, subst, arith}
use Rattle.std.specs.Prelude.{IsSome}
use Rattle.dp_model.specs.Counts.{tree}
use Rattle.dp_model.specs.Dp.{Dp}
use Rattle.dp_model.specs.Subproblem.{Subproblem}
use Rattle.fringe.specs.Tickets.{Ticketed}
use Rattle.board_laws.specs.Board.{BoardState, full_slots, slot_content, slot_at, is_explored}
use Rattle.board_laws.specs.GoodBoard.{IsGood}
use Rattle.board_laws.specs.Runs.{MayHalt, MayGiveBack}
use Rattle.board_laws.specs.Runs.Step.{GiveBack, Halt}
use Rattle.board_laws.specs.Steps.{given_back, given_back_from, cause_after, halted}
use Rattle.board_laws.specs.declared.cause.Cause.{Cause}
use Rattle.board_laws.specs.declared.cause.Cause.TheVariants.{Memory, Journal as of_journal}
use Rattle.kept_board.specs.declared.error.KeptError.{KeptError}
use Rattle.kept_board.specs.declared.error.KeptError.TheVariants.{Journal, OutOfMemory}
use Rattle.board_laws.proofs.Running.{run-then}
use Rattle.search_workers.specs.Later.{IsLater, NoRoundFollows, IsComplete}
use Rattle.search_workers.specs.Offered.{IsOffered}
use Rattle.search_workers.specs.Stopped.{IsRefused}
use Rattle.search_workers.specs.UnderWay.{IsRoundUnderWay, HasFinished, handed_back}
use Rattle.search_workers.proofs.Taking.{set_back, slot_set}

pub later_refl : (dp : Dp) (b : BoardState) → IsLater dp b b
later_refl dp b = record { steps = []; run = refl; slots = refl }

pub later_trans : (dp : Dp) (a b c : BoardState) → IsLater dp a b → IsLater dp b c → IsLater dp a c
later_trans dp a b c first then = record {
  steps = first.steps ++ then.steps;
  run = run-then dp a b c first.steps then.steps first.run then.run;
  slots = then.slots ∙ first.slots;
}

-- what is under way stays so while solutions are offered
pub still_under_way : (dp : Dp) (b taken now : BoardState) (c : Subproblem) → IsRoundUnderWay dp b taken c → IsOffered dp taken now → IsRoundUnderWay dp b now c
still_under_way dp b taken now c way offered = record {
  steps = way.steps ++ offered.steps;
  run = run-then dp b taken now way.steps offered.steps way.run offered.run;
  out = way.out;
  same = way.same;
  own = way.own;
  slots = offered.slots ∙ way.slots;
  taken = offered.taken ∙ way.taken;
  began_without = way.began_without;
  without_cause = offered.cause ∙ way.without_cause;
}

-- what is under way is out
pub way_out : (dp : Dp) (b now : BoardState) (c : Subproblem) (way : IsRoundUnderWay dp b now c) → slice_get b.slots 0 ≡ Some None → slot_at now 0 ≡ Some way.out
way_out dp b now c way empty = ap (λ s. slot_content (slice_get s 0)) way.slots ∙ slot_set b.slots way.out empty

pub way_out_is : (dp : Dp) (b now : BoardState) (c : Subproblem) → IsRoundUnderWay dp b now c → slice_get b.slots 0 ≡ Some None → option_map (λ (o : Ticketed). o.subproblem) (slot_at now 0) ≡ Some c
way_out_is dp b now c way empty = ap (option_map (λ (o : Ticketed). o.subproblem)) (way_out dp b now c way empty) ∙ ap Some way.same

-- a round that finishes
pub finished_later : (dp : Dp) (b now after : BoardState) (c : Subproblem) → IsRoundUnderWay dp b now c → slice_get b.slots 0 ≡ Some None → HasFinished dp now after → IsLater dp b after
finished_later dp b now after c way empty f = record {
  steps = way.steps ++ f.steps;
  run = run-then dp b now after way.steps f.steps way.run f.run;
  slots = f.slots ∙ (ap (λ s. slice_set s 0 None) way.slots ∙ set_back b.slots (Some way.out) empty);
}

-- a round that gives up, once the search is halted for this cause
given_up_later : (dp : Dp) (b now after : BoardState) (c : Subproblem) (cause : Cause) → MayHalt cause → cause_after None cause ≡ Some cause → IsRoundUnderWay dp b now c → slice_get b.slots 0 ≡ Some None
    → after ≡ given_back (halted now cause) 0 → IsLater dp b after
given_up_later dp b now after c cause can new way empty step =
    let halt = halted now cause in
    let full : slot_at halt 0 ≡ Some way.out = way_out dp b now c way empty in
    let held : halt.cause ≡ Some cause = ap (λ o. cause_after o cause) way.without_cause ∙ new in
    let is : after ≡ given_back_from halt 0 (Some way.out) = step ∙ ap (given_back_from halt 0) full in
    let may : MayGiveBack halt 0 = record { full = subst (λ s. IsSome s) (sym full) refl; halted = subst (λ o. IsSome o) (sym held) refl } in
    record {
      steps = way.steps ++ Halt cause ∷ GiveBack 0 ∷ [];
      run = run-then dp b now after way.steps (Halt cause ∷ GiveBack 0 ∷ []) way.run (can, (may, sym step));
      slots = ap (λ l. l.slots) is ∙ (ap (λ s. slice_set s 0 None) way.slots ∙ set_back b.slots (Some way.out) empty);
    }

-- a round of which a step was refused
pub refused_later : (dp : Dp) (b now last after : BoardState) (c : Subproblem) (error : KeptError) → IsRoundUnderWay dp b now c → slice_get b.slots 0 ≡ Some None → IsRefused dp now error last → after ≡ handed_back error last → IsLater dp b after
refused_later dp b now last after c OutOfMemory way empty r step =
    given_up_later dp b r.last after c Memory tt refl (still_under_way dp b now r.last c way r.offered) empty (step ∙ ap (λ l. given_back (halted l Memory) 0) r.is)
refused_later dp b now last after c Journal way empty r step =
    given_up_later dp b r.last after c of_journal tt refl (still_under_way dp b now r.last c way r.offered) empty (step ∙ ap (λ l. given_back l 0) r.is)

-- The end.

true_or_false : (b : Bool) → b ≡ true → b ≡ false → ⊥
true_or_false b here there = cc

explored_or_not : (b : BoardState) → full_slots b.slots ≡ [] → b.open_ones ≡ [] → is_explored b ≡ false → ⊥
explored_or_not b idle nothing is =
    let here : is_explored b ≡ true = ap (λ os. nat_eq (length os + length (full_slots b.slots)) 0) nothing ∙ ap (λ fs. nat_eq (0 + length fs) 0) idle in
    true_or_false (is_explored b) here is

budget_left : (taken budget next : ℕ) → taken < budget → next ≤ 2 ^ 63 → IsTrue (nat_eq taken budget || nat_lt (2 ^ 64 - 2 ^ 29) next) → ⊥
budget_left taken budget next less few up = grind arith

pub complete : (dp : Dp) (b : BoardState) → IsGood dp b → NoRoundFollows b → full_slots b.slots ≡ [] → (b.cause ≡ None → (b.open_ones ≡ [] → ⊥) → b.taken < tree dp) → IsComplete dp b
complete dp b good ended idle fewer enough few none =
    elim (is_explored b) as (λ e. is_explored b ≡ e → IsTrue e) [
      | true ↦ λ is. refl
      | false ↦ λ is.
          let something : b.open_ones ≡ [] → ⊥ = λ nothing. explored_or_not b idle nothing is in
          let less = fewer none something in
          let tickets = good.shares in
          absurd (budget_left b.taken b.settings.budget b.next_ticket (omega arith) (omega arith) (ended is none))
    ] refl
