-- The open ones in the order of their slots, sorted by ticket.
use Rattle.std.proofs.Common.{◌≡◌, ◌≢◌, ℕ, ◌≤◌, List, [], ◌∷◌, map, true, false, cond, nat_eq, nat_lt, Option, Some, None, IsPermutation, refl, arith}
use Rattle.std.specs.Borrow.{Bor}
use Rattle.std.specs.List.Sorted.{IsNonDecreasingBy}
use Rattle.std.proofs.lemmas.List.Sorted.{IsPermutation-refl, IsPermutation-cons, IsPermutation-sym, IsPermutation-trans, IsPermutation-swap}
use Rattle.dp_model.specs.Subproblem.{SubView}
use Rattle.dp_model.proofs.RowLemmas.{nat_eq-is, nat_eq-self}
use Rattle.dp_laws.specs.Pairs.{EachTwo}
use Rattle.dp_laws.proofs.Restricted.Permutations.{two-at, two-map, two-both, Has-permutation, Has-permutation-back, keys-permutation}
use Rattle.fringe.specs.Tickets.{Ticketed, IsEarlier, HasTickets, by_ticket}
use Rattle.fringe.specs.Slots.{opened, HaveOwnTickets}
use Rattle.fringe.specs.Listing.{in_slots, referred}
use Rattle.fringe.proofs.Openeds.{opened_tickets, same_members}

swapped : (o x : Ticketed) (os : List Ticketed) → IsPermutation (o ∷ x ∷ os) (x ∷ o ∷ os)
swapped o x os = IsPermutation-swap (o ∷ x ∷ os) (x ∷ o ∷ os) 0 1 (omega arith) (omega arith) refl

pub permutation-by_ticket : (o : Ticketed) (os : List Ticketed) → IsPermutation (o ∷ os) (by_ticket o os)
permutation-by_ticket o [] = IsPermutation-refl (o ∷ [])
permutation-by_ticket o (x ∷ os) =
    elim (nat_lt o.ticket x.ticket) as (λ b. IsPermutation (o ∷ x ∷ os) (cond b (o ∷ x ∷ os) (x ∷ by_ticket o os))) [
      | true ↦ IsPermutation-refl (o ∷ x ∷ os)
      | false ↦ IsPermutation-trans (o ∷ x ∷ os) (x ∷ o ∷ os) (x ∷ by_ticket o os) (swapped o x os)
          (IsPermutation-cons x (o ∷ os) (by_ticket o os) (permutation-by_ticket o os))
    ]

pub permutation-opened : (slots : List (Option Ticketed)) → IsPermutation (in_slots slots) (opened slots)
permutation-opened [] = IsPermutation-refl []
permutation-opened (None ∷ slots) = permutation-opened slots
permutation-opened (Some o ∷ slots) =
    IsPermutation-trans (o ∷ in_slots slots) (o ∷ opened slots) (by_ticket o (opened slots))
    (IsPermutation-cons o (in_slots slots) (opened slots) (permutation-opened slots)) (permutation-by_ticket o (opened slots))

pub rising : (ps : List (ℕ × Bor SubView)) → IsNonDecreasingBy (λ (p : ℕ × Bor SubView). p.0) ps → EachTwo (λ (a b : Ticketed). a.ticket ≤ b.ticket) (map referred ps)
rising ps up = two-map referred (λ (a b : Ticketed). a.ticket ≤ b.ticket) ps
    (two-at (λ (p q : ℕ × Bor SubView). p.0 ≤ q.0) ps (λ i j d less within. up i j d (omega arith) within))

-- the open ones in another order in which no ticket is less than one before it: they are in order of ticket
pub sorted_opened : (slots : List (Option Ticketed)) (os : List Ticketed) → HaveOwnTickets slots → IsPermutation (in_slots slots) os → EachTwo (λ (a b : Ticketed). a.ticket ≤ b.ticket) os
    → os ≡ opened slots
sorted_opened slots os apart moved rise =
    let tickets : HasTickets (opened slots) = opened_tickets slots apart in
    let moved_on : IsPermutation (opened slots) os =
    IsPermutation-trans (opened slots) (in_slots slots) os (IsPermutation-sym (in_slots slots) (opened slots) (permutation-opened slots)) moved in
    let differ : EachTwo (λ (a b : Ticketed). a.ticket ≢ b.ticket) os =
    keys-permutation nat_eq nat_eq-is nat_eq-self (λ (o : Ticketed). o.ticket) (opened slots) os moved_on
    (two-both IsEarlier IsEarlier (λ a b. a.ticket ≢ b.ticket) (λ a b less more same. omega arith) (opened slots) tickets tickets) in
    same_members os (opened slots)
    (two-both (λ (a b : Ticketed). a.ticket ≤ b.ticket) (λ a b. a.ticket ≢ b.ticket) IsEarlier (λ a b most other. omega arith) os rise differ)
    tickets
    (λ o h. Has-permutation-back (opened slots) os moved_on o h)
    (λ o h. Has-permutation (opened slots) os moved_on o h)
