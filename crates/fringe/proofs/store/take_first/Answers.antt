use Rattle.std.proofs.Common.{◌≡◌, ℕ, List, Option, None, ◌∙◌, ap, subst}
use Rattle.fringe.specs.declared.store.Store.{Store}
use Rattle.fringe.specs.Tickets.{Ticketed}
use Rattle.fringe.specs.Slots.{IsFirstSlot, in_slot, opened}
use Rattle.fringe.proofs.Pops.{none_first, none_after, best_taken, best_after}
use Rattle.fringe.proofs.store.take_first.Goals as goal

pub returns-in_err-slot-clause-first : goal.returns-in_err-slot-clause-first
returns-in_err-slot-clause-first c =
    c.from_residual.ensures ∙ none_first c.args.store.now.slots.items (subst (λ (l : List (Option Ticketed)). (s : ℕ) → in_slot l s ≡ None) c.as_slice.ensures.value c.in_err-slot.ensures.none)

pub returns-in_err-slot-clause-listed : goal.returns-in_err-slot-clause-listed
returns-in_err-slot-clause-listed c =
    none_after c.args.store.now.slots.items (subst (λ (l : List (Option Ticketed)). (s : ℕ) → in_slot l s ≡ None) c.as_slice.ensures.value c.in_err-slot.ensures.none)

pub returns-clause-first : goal.returns-clause-first
returns-clause-first c =
    let s = c.args.store.now in
    best_taken s.slots.items c.in_ok-slot.slot c.clear_slot-one.result c.requires.stored.held.apart (subst (λ (l : List (Option Ticketed)). IsFirstSlot l c.in_ok-slot.slot) c.as_slice.ensures.value c.in_ok-slot.ensures.best) c.clear_slot-one.ensures.one

pub returns-clause-listed : goal.returns-clause-listed
returns-clause-listed c =
    let s = c.args.store.now in
    ap (λ (t : Store). opened t.slots.items) c.trim_ranks.ensures.kept
    ∙ best_after s.slots.items c.clear_slot-one.new.store.slots.items c.in_ok-slot.slot c.clear_slot-one.result c.requires.stored.held.apart
    (subst (λ (l : List (Option Ticketed)). IsFirstSlot l c.in_ok-slot.slot) c.as_slice.ensures.value c.in_ok-slot.ensures.best) c.clear_slot-one.ensures.one c.clear_slot-one.ensures.slots
