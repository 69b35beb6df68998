-- Those that stay are those whose bound is greater.
use Rattle.std.proofs.Common.{◌≡◌, ℕ, zero, suc, ◌<◌, ℤ, List, [], ◌∷◌, length, true, false, int_lt, Option, Some, arith}
use Rattle.std.proofs.lemmas.Int.{ints}
use Rattle.dp_model.proofs.Members.{Has-filter, Has-filter-from}
use Rattle.dp_laws.proofs.Lists.{two-filter}
use Rattle.fringe.specs.Tickets.{Ticketed, above_value}
use Rattle.fringe.specs.Slots.{HaveOwnTickets, in_slot, is_low, opened}
use Rattle.fringe.proofs.Openeds.{has_opened, opened_has, opened_tickets, same_members}

pub slot_within : (slots : List (Option Ticketed)) (t : ℕ) (o : Ticketed) → in_slot slots t ≡ Some o → t < length slots
slot_within [] t o h = absurd (cc)
slot_within (x ∷ slots) zero o h = omega arith
slot_within (x ∷ slots) (suc t) o h = let k = slot_within slots t o h in omega arith

pub above : (value : ℤ) (o : Ticketed) → is_low value (Some o) ≡ false → int_lt value o.subproblem.bound ≡ true
above value o h = grind (arith, ints)

not_low : (value : ℤ) (o : Ticketed) → int_lt value o.subproblem.bound ≡ true → is_low value (Some o) ≡ false
not_low value o h = grind (arith, ints)

pub opened_dropped : (old new : List (Option Ticketed)) (value : ℤ) → HaveOwnTickets old → HaveOwnTickets new
    → ((t : ℕ) (o : Ticketed) → in_slot new t ≡ Some o → in_slot old t ≡ Some o)
    → ((t : ℕ) (o : Ticketed) → in_slot old t ≡ Some o → is_low value (Some o) ≡ false → in_slot new t ≡ Some o)
    → ((t : ℕ) (o : Ticketed) → in_slot new t ≡ Some o → is_low value (Some o) ≡ false)
    → opened new ≡ above_value value (opened old)
opened_dropped old new value apart apart' was stays high =
    same_members (opened new) (above_value value (opened old)) (opened_tickets new apart')
    (two-filter (λ a b. a.ticket < b.ticket) (λ o. int_lt value o.subproblem.bound) (opened old) (opened_tickets old apart))
    (λ p h. let r = opened_has new p h in Has-filter (λ o. int_lt value o.subproblem.bound) (opened old) p (has_opened old r.0 p (was r.0 p r.1)) (above value p (high r.0 p r.1)))
    (λ p h. let k = Has-filter-from (λ o. int_lt value o.subproblem.bound) (opened old) p h in let r = opened_has old p k.0 in has_opened new r.0 p (stays r.0 p r.1 (not_low value p k.1)))
