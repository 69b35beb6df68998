-- What a Take gives to a seat.
use Rattle.std.proofs.Common.{◌≡◌, ◌≢◌, ℕ, ◌≤◌, List, length, Option, Some, None, option_map, refl, sym, ap, subst, ◌∙◌, arith}
use Rattle.dp_model.specs.Dp.{Dp}
use Rattle.dp_model.specs.Laws.{IsLawful}
use Rattle.dp_model.specs.Subproblem.{Subproblem, SubView, IsOwn}
use Rattle.dp_model.proofs.Paths.{state_of-state}
use Rattle.fringe.specs.Tickets.{Ticketed}
use Rattle.board_laws.specs.Board.{BoardState, slot_at}
use Rattle.board_laws.specs.GoodBoard.{IsBoard}
use Rattle.board_laws.specs.Taking.{take_gives, after_answer, after_take}
use Rattle.board_laws.specs.declared.taken.Taken.{Taken}
use Rattle.board_laws.specs.declared.taken.Taken.TheVariants.{Sub, WaitForOthers, Finished, Halted}
use Rattle.board.specs.Moves.{out_at}
use Rattle.search_workers.specs.Prepared.{CanHold}
use Rattle.search_workers.specs.Ready.{IsOut, TakenOut}
use Rattle.search_workers.proofs.Slots.{of_slot}

-- a slot that has this subproblem
record HasTaken (slot : Option Ticketed) (c : Subproblem) : Type 0 where
  out : Ticketed
  full : slot ≡ Some out
  same : out.subproblem ≡ c

has_taken : (slot : Option Ticketed) (c : Subproblem) → option_map (λ o. o.subproblem) slot ≡ Some c → HasTaken slot c
has_taken None c e = absurd (cc)
has_taken (Some o) c e = record { out = o; full = refl; same = cc }

is_out : (dp : Dp) (now : BoardState) (who : ℕ) (c : Subproblem) → IsBoard dp now → option_map (λ o. o.subproblem) (slot_at now who) ≡ Some c → IsOut dp (out_at now who) c
is_out dp now who c kept e =
    let h = has_taken (slot_at now who) c e in
    record {
      is = ap (λ s. option_map (λ o. o.subproblem.decisions) s) h.full ∙ ap (λ x. Some x.decisions) h.same;
      own = subst (IsOwn dp) h.same (of_slot (λ o. IsOwn dp o.subproblem) now.slots now.open_ones who h.out kept.own h.full);
    }

nothing_out : (before now : BoardState) (who : ℕ) → now ≡ before → out_at before who ≡ None → out_at now who ≡ None
nothing_out before now who same none = ap (λ b. out_at b who) same ∙ none

pub taken_out : (dp : Dp) (before now : BoardState) (who : ℕ) (c : Subproblem) (answer : Taken) → answer ≡ take_gives before → now ≡ after_take before who
    → (answer ≡ Sub → option_map (λ o. o.subproblem) (slot_at now who) ≡ Some c) → out_at before who ≡ None → IsBoard dp now → TakenOut dp answer (out_at now who) c
taken_out dp before now who c Sub gives step out none kept = is_out dp now who c kept (out refl)
taken_out dp before now who c WaitForOthers gives step out none kept = nothing_out before now who (step ∙ ap (after_answer before who) (sym gives)) none
taken_out dp before now who c Finished gives step out none kept = nothing_out before now who (step ∙ ap (after_answer before who) (sym gives)) none
taken_out dp before now who c (Halted cause) gives step out none kept = nothing_out before now who (step ∙ ap (after_answer before who) (sym gives)) none

-- what was taken lies in what has room for it still
pub can_hold : (dp : Dp) → IsLawful dp → (answer : Taken) (out : Option (List ℕ)) (old new : SubView) → CanHold dp old → old.room ≤ new.room → TakenOut dp answer out new.subproblem
    → (answer ≢ Sub → new ≡ old) → CanHold dp new
can_hold dp laws Sub out old new h more taken same =
    record { decisions = (let least = h.decisions in omega arith); cells = ap length taken.own.row ∙ laws.sizes.cells _ _ (state_of-state dp laws.states new.subproblem.decisions taken.own.prefix) }
can_hold dp laws WaitForOthers out old new h more taken same = subst (CanHold dp) (sym (same (λ e. absurd (cc)))) h
can_hold dp laws Finished out old new h more taken same = subst (CanHold dp) (sym (same (λ e. absurd (cc)))) h
can_hold dp laws (Halted cause) out old new h more taken same = subst (CanHold dp) (sym (same (λ e. absurd (cc)))) h
