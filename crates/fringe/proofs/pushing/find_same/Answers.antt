use Rattle.std.proofs.Common.{rules, ◌≡◌, ℕ, false, true, List, Option, subst}
use Rattle.fringe.specs.Tickets.{Ticketed}
use Rattle.fringe.specs.Slots.{in_slot, is_same_in}
use Rattle.fringe.proofs.Pushings.{has_same, has_none}
use Rattle.fringe.proofs.pushing.find_same.Goals as goal

pub returns-in_err-slot : goal.returns-in_err-slot
returns-in_err-slot c =
    rw c.from_residual.ensures (has_none c.args.store.now.slots.items c.args.depth c.args.row.now
    (subst (λ (l : List (Option Ticketed)). (s : ℕ) → is_same_in c.args.depth c.args.row.now (in_slot l s) ≡ false) c.as_slice-slots.ensures.value c.in_err-slot.ensures))

pub returns : goal.returns
returns c =
    let slots = c.args.store.now.slots.items in
    has_same c.args.store.now.words slots c.args.depth c.args.row.now c.in_ok-slot.slot c.in-Some.one.now _ _ c.requires.stored.held (search rules)
    (subst (λ (l : List (Option Ticketed)). is_same_in c.args.depth c.args.row.now (in_slot l c.in_ok-slot.slot) ≡ true) c.as_slice-slots.ensures.value c.in_ok-slot.ensures)
    c.same_of.ensures.ticket c.same_of.ensures.value
