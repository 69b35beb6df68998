-- The best slot has the first of the open ones.
use Rattle.std.proofs.Common.{◌≡◌, ℕ, List, Option, Some, None, sym, ◌∙◌, ap}
use Rattle.fringe.specs.Firsts.{first_taken}
use Rattle.fringe.specs.Popping.{after_pop, taken_out}
use Rattle.fringe.specs.Tickets.{Ticketed}
use Rattle.fringe.specs.Slots.{HaveOwnTickets, IsFirstSlot, IsSlotSet, in_slot, opened}
use Rattle.fringe.proofs.Openeds.{opened_taken}
use Rattle.fringe.proofs.Views.{best_first, opened_none}

pub none_first : (slots : List (Option Ticketed)) → ((s : ℕ) → in_slot slots s ≡ None) → None ≡ first_taken (opened slots)
none_first slots none = ap first_taken (sym (opened_none slots none))

pub none_after : (slots : List (Option Ticketed)) → ((s : ℕ) → in_slot slots s ≡ None) → opened slots ≡ after_pop (opened slots)
none_after slots none = let e = opened_none slots none in e ∙ ap after_pop (sym e)

pub best_taken : (slots : List (Option Ticketed)) (s : ℕ) (o : Ticketed) → HaveOwnTickets slots → IsFirstSlot slots s → in_slot slots s ≡ Some o → Some o ≡ first_taken (opened slots)
best_taken slots s o apart best at = sym at ∙ (best.there ∙ sym (best_first slots s apart best))

pub best_after : (slots slots' : List (Option Ticketed)) (s : ℕ) (o : Ticketed) → HaveOwnTickets slots → IsFirstSlot slots s → in_slot slots s ≡ Some o → IsSlotSet slots slots' s None
    → opened slots' ≡ after_pop (opened slots)
best_after slots slots' s o apart best at set =
    opened_taken slots slots' s o set at apart ∙ ap (λ t. taken_out t (opened slots)) (best_taken slots s o apart best at)
