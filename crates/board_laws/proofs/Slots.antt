-- Slots that are filled and emptied, and the open list by place and by ticket.
use Rattle.std.proofs.Common.{◌≡◌, ℕ, zero, suc, ◌≤◌, List, [], ◌∷◌, length, set, true, false, cond, nat_lt, Option, Some, None, sym, ap, subst, arith}
use Rattle.std.specs.List.{slice_get}
use Rattle.fringe.specs.Tickets.{Ticketed, by_ticket}
use Rattle.board_laws.proofs.With.{IsWith, with-here, with-there}
use Rattle.board_laws.specs.Board.{full_slots, slot_content}

-- a slot that has something
pub slot-full : (slot : Option (Option Ticketed)) (o : Ticketed) → slot_content slot ≡ Some o → slot ≡ Some (Some o)
slot-full None o h = absurd (cc)
slot-full (Some slot) o h = ap (λ x. Some x) h

pub filled : (slots : List (Option Ticketed)) (who : ℕ) (o : Ticketed) → slice_get slots who ≡ Some None → IsWith o (full_slots slots) (full_slots (set slots who (Some o)))
filled [] who o h = absurd (cc)
filled (None ∷ slots) zero o h = with-here o (full_slots slots)
filled (Some x ∷ slots) zero o h = absurd (cc)
filled (None ∷ slots) (suc who) o h = filled slots who o h
filled (Some x ∷ slots) (suc who) o h = with-there o x (full_slots slots) (full_slots (set slots who (Some o))) (filled slots who o h)

pub emptied : (slots : List (Option Ticketed)) (who : ℕ) (o : Ticketed) → slice_get slots who ≡ Some (Some o) → IsWith o (full_slots (set slots who None)) (full_slots slots)
emptied [] who o h = absurd (cc)
emptied (None ∷ slots) zero o h = absurd (cc)
emptied (Some x ∷ slots) zero o h =
    let same : x ≡ o = cc in subst (λ y. IsWith o (full_slots slots) (y ∷ full_slots slots)) (sym same) (with-here o (full_slots slots))
emptied (None ∷ slots) (suc who) o h = emptied slots who o h
emptied (Some x ∷ slots) (suc who) o h = with-there o x (full_slots (set slots who None)) (full_slots slots) (emptied slots who o h)

-- no more slots are full than there are
pub full-few : (slots : List (Option Ticketed)) → length (full_slots slots) ≤ length slots
full-few [] = omega arith
full-few (None ∷ slots) = let rest = full-few slots in omega arith
full-few (Some x ∷ slots) = let rest = full-few slots in omega arith

pub with-by_ticket : (o : Ticketed) (os : List Ticketed) → IsWith o os (by_ticket o os)
with-by_ticket o [] = with-here o []
with-by_ticket o (x ∷ os) =
    elim (nat_lt o.ticket x.ticket) as (λ b. IsWith o (x ∷ os) (cond b (o ∷ x ∷ os) (x ∷ by_ticket o os))) [
      | true ↦ with-here o (x ∷ os)
      | false ↦ with-there o x os (by_ticket o os) (with-by_ticket o os)
    ]
