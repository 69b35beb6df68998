-- What the open ones are, by what the slots keep.
use Rattle.std.proofs.Common.{◌≡◌, ℕ, ◌<◌, List, [], ◌∷◌, length, Bool, true, false, Option, Some, inl, inr, refl, sym, ap, subst, arith}
use Rattle.dp_model.proofs.Members.{Has, each-has, each-of-all}
use Rattle.dp_laws.specs.Pairs.{EachTwo}
use Rattle.fringe.specs.Fringe.{AreDifferent, IsFringe, is_same}
use Rattle.fringe.specs.Tickets.{Ticketed, HasTickets}
use Rattle.fringe.specs.Slots.{IsOpen, in_slot, opened}
use Rattle.fringe.proofs.Openeds.{opened_has, opened_tickets}

two_of : (R : Ticketed → Ticketed → Type 0) (os : List Ticketed) → HasTickets os → ((a b : Ticketed) → Has a os → Has b os → a.ticket < b.ticket → R a b) → EachTwo R os
two_of R [] h f = tt
two_of R (x ∷ os) h f = (
  each-of-all (R x) os (λ b k. f x b (inl refl) (inr k) (each-has (λ (y : Ticketed). x.ticket < y.ticket) os b h.0 k)),
  two_of R os h.1 (λ a b ka kb l. f a b (inr ka) (inr kb) l),
)

pub opened_fringe : (words : ℕ) (slots : List (Option Ticketed)) → IsOpen words slots → IsFringe words (opened slots)
opened_fringe words slots held = record {
  tickets = opened_tickets slots held.apart;
  different = two_of AreDifferent (opened slots) (opened_tickets slots held.apart)
      (λ a b ha hb less. let r = opened_has slots a ha in let q = opened_has slots b hb in
      let turn : (t : Bool) → is_same (length a.subproblem.decisions) a.subproblem.row b ≡ t → t ≡ false =
      λ t. elim t as (λ t. is_same (length a.subproblem.decisions) a.subproblem.row b ≡ t → t ≡ false) [
        | true ↦ λ e. absurd (
            let s : r.0 ≡ q.0 = held.different r.0 q.0 a b r.1 q.1 e in
            let there : in_slot slots r.0 ≡ Some b = subst (λ n. in_slot slots n ≡ Some b) (sym s) q.1 in
            let at = r.1 in
            let same : a ≡ b = cc in
            let ticket : a.ticket ≡ b.ticket = ap (λ (y : Ticketed). y.ticket) same in omega arith)
        | false ↦ λ e. refl
      ] in turn (is_same (length a.subproblem.decisions) a.subproblem.row b) refl);
  cells = each-of-all (λ (o : Ticketed). length o.subproblem.row ≡ words) (opened slots) (λ o h. let r = opened_has slots o h in held.cells r.0 o r.1);
}
