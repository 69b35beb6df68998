-- The open ones in order of ticket, by what the slots have.
use Rattle.std.proofs.Common.{◌≡◌, ◌≢◌, ℕ, zero, suc, ◌<◌, List, [], ◌∷◌, Bool, true, false, cond, not, nat_eq, nat_lt, Option, Some, None, ◌⊎◌, inl, inr, refl, sym, ◌∙◌, ap, ap₂, subst, arith, IsTrue}
use Rattle.std.proofs.lemmas.Bool.Decides.{nat_tests}
use Rattle.std.proofs.lemmas.Bool.{cases_eq}
use Rattle.dp_model.proofs.Members.{Has, each-has, each-of-all, Has-filter, Has-filter-from}
use Rattle.fringe.specs.Tickets.{Ticketed, HasTickets, by_ticket, without}
use Rattle.fringe.proofs.Tickets.{tickets-by_ticket}
use Rattle.dp_laws.proofs.Lists.{two-filter}
use Rattle.fringe.specs.Slots.{in_slot, opened, HaveOwnTickets, IsSlotSet}

pub has_by_ticket : (o p : Ticketed) (os : List Ticketed) → Has p os → Has p (by_ticket o os)
has_by_ticket o p [] h = absurd h
has_by_ticket o p (x ∷ os) h =
    elim (nat_lt o.ticket x.ticket) as (λ b. Has p (cond b (o ∷ x ∷ os) (x ∷ by_ticket o os))) [
      | true ↦ inr h
      | false ↦ elim h as (λ _. Has p (x ∷ by_ticket o os)) [ inl same ↦ inl same | inr later ↦ inr (has_by_ticket o p os later) ]
    ]

pub has_put : (o : Ticketed) (os : List Ticketed) → Has o (by_ticket o os)
has_put o [] = inl refl
has_put o (x ∷ os) = elim (nat_lt o.ticket x.ticket) as (λ b. Has o (cond b (o ∷ x ∷ os) (x ∷ by_ticket o os))) [ true ↦ inl refl | false ↦ inr (has_put o os) ]

pub by_ticket_has : (o p : Ticketed) (os : List Ticketed) → Has p (by_ticket o os) → (o ≡ p) ⊎ Has p os
by_ticket_has o p [] h = elim h as (λ _. (o ≡ p) ⊎ Has p []) [ inl same ↦ inl same | inr never ↦ absurd never ]
by_ticket_has o p (x ∷ os) h =
    let go : (b : Bool) → Has p (cond b (o ∷ x ∷ os) (x ∷ by_ticket o os)) → (o ≡ p) ⊎ Has p (x ∷ os) =
    λ b. elim b as (λ b. Has p (cond b (o ∷ x ∷ os) (x ∷ by_ticket o os)) → (o ≡ p) ⊎ Has p (x ∷ os)) [
      | true ↦ λ k. elim k as (λ _. (o ≡ p) ⊎ Has p (x ∷ os)) [ inl same ↦ inl same | inr there ↦ inr there ]
      | false ↦ λ k. elim k as (λ _. (o ≡ p) ⊎ Has p (x ∷ os)) [
        | inl same ↦ inr (inl same)
        | inr later ↦ elim (by_ticket_has o p os later) as (λ _. (o ≡ p) ⊎ Has p (x ∷ os)) [ inl same ↦ inl same | inr there ↦ inr (inr there) ]
      ]
    ] in
    go (nat_lt o.ticket x.ticket) h

pub has_opened : (slots : List (Option Ticketed)) (s : ℕ) (o : Ticketed) → in_slot slots s ≡ Some o → Has o (opened slots)
has_opened [] s o h = absurd (cc)
has_opened (None ∷ slots) zero o h = absurd (cc)
has_opened (None ∷ slots) (suc s) o h = has_opened slots s o h
has_opened (Some p ∷ slots) zero o h = let same : p ≡ o = cc in subst (λ q. Has o (by_ticket q (opened slots))) (sym same) (has_put o (opened slots))
has_opened (Some p ∷ slots) (suc s) o h = has_by_ticket p o (opened slots) (has_opened slots s o h)

pub opened_has : (slots : List (Option Ticketed)) (o : Ticketed) → Has o (opened slots) → (s : ℕ) × (in_slot slots s ≡ Some o)
opened_has [] o h = absurd h
opened_has (None ∷ slots) o h = let r = opened_has slots o h in (suc r.0, r.1)
opened_has (Some p ∷ slots) o h =
    elim (by_ticket_has p o (opened slots) h) as (λ _. (s : ℕ) × (in_slot (Some p ∷ slots) s ≡ Some o)) [
      | inl same ↦ (zero, ap (λ (q : Ticketed). Some q) same)
      | inr there ↦ (let r = opened_has slots o there in (suc r.0, r.1))
    ]

apart_rest : (x : Option Ticketed) (slots : List (Option Ticketed)) → HaveOwnTickets (x ∷ slots) → HaveOwnTickets slots
apart_rest x slots apart s t o p a b e = let k = apart (suc s) (suc t) o p a b e in omega arith

pub opened_tickets : (slots : List (Option Ticketed)) → HaveOwnTickets slots → HasTickets (opened slots)
opened_tickets [] apart = tt
opened_tickets (None ∷ slots) apart = opened_tickets slots (apart_rest None slots apart)
opened_tickets (Some o ∷ slots) apart =
    tickets-by_ticket o (opened slots)
    (each-of-all (λ (x : Ticketed). x.ticket ≢ o.ticket) (opened slots)
    (λ x h e. let r = opened_has slots x h in let k : suc r.0 ≡ zero = apart (suc r.0) zero x o r.1 refl e in absurd (omega arith)))
    (opened_tickets slots (apart_rest (Some o) slots apart))

-- two lists in order of ticket with the same members are the same
pub same_members : (xs ys : List Ticketed) → HasTickets xs → HasTickets ys → ((o : Ticketed) → Has o xs → Has o ys) → ((o : Ticketed) → Has o ys → Has o xs) → xs ≡ ys
same_members [] [] hx hy f g = refl
same_members [] (y ∷ ys) hx hy f g = absurd (g y (inl refl))
same_members (x ∷ xs) [] hx hy f g = absurd (f x (inl refl))
same_members (x ∷ xs) (y ∷ ys) hx hy f g =
    let later-x : (o : Ticketed) → Has o xs → x.ticket < o.ticket = λ o h. each-has (λ (a : Ticketed). x.ticket < a.ticket) xs o hx.0 h in
    let later-y : (o : Ticketed) → Has o ys → y.ticket < o.ticket = λ o h. each-has (λ (a : Ticketed). y.ticket < a.ticket) ys o hy.0 h in
    let heads : x ≡ y = elim (f x (inl refl)) as (λ _. x ≡ y) [
      | inl same ↦ sym same
      | inr there ↦ elim (g y (inl refl)) as (λ _. x ≡ y) [ inl same ↦ same | inr other ↦ absurd (let a = later-y x there in let b = later-x y other in omega arith) ]
    ] in
    let tails : xs ≡ ys = same_members xs ys hx.1 hy.1
    (λ o h. elim (f o (inr h)) as (λ _. Has o ys) [ inl same ↦ absurd (let a = later-x o h in let b : x.ticket ≡ o.ticket = ap (λ (q : Ticketed). q.ticket) (heads ∙ same) in omega arith) | inr there ↦ there ])
    (λ o h. elim (g o (inr h)) as (λ _. Has o xs) [ inl same ↦ absurd (let a = later-y o h in let b : y.ticket ≡ o.ticket = ap (λ (q : Ticketed). q.ticket) (sym heads ∙ same) in omega arith) | inr there ↦ there ]) in
    ap₂ (λ a l. a ∷ l) heads tails

-- what another slot has, it had
pub was : (old new : List (Option Ticketed)) (s : ℕ) (x : Option Ticketed) (t : ℕ) (p : Ticketed) → IsSlotSet old new s x → t ≢ s → in_slot new t ≡ Some p → in_slot old t ≡ Some p
was old new s x t p set other at = sym (set.others t other) ∙ at

pub filled : (old new : List (Option Ticketed)) (s : ℕ) (o : Ticketed) (t : ℕ) (p : Ticketed) → IsSlotSet old new s (Some o) → t ≡ s → in_slot new t ≡ Some p → p ≡ o
filled old new s o t p set same at = let here : in_slot new s ≡ Some p = subst (λ n. in_slot new n ≡ Some p) same at in let now = set.changed in cc

pub cleared : (old new : List (Option Ticketed)) (s t : ℕ) (p : Ticketed) → IsSlotSet old new s None → t ≡ s → in_slot new t ≡ Some p → ⊥
cleared old new s t p set same at = let here : in_slot new s ≡ Some p = subst (λ n. in_slot new n ≡ Some p) same at in let now = set.changed in cc

-- a slot was filled
pub apart_filled : (old new : List (Option Ticketed)) (s : ℕ) (o : Ticketed) → IsSlotSet old new s (Some o) → HaveOwnTickets old
    → ((t : ℕ) (p : Ticketed) → in_slot old t ≡ Some p → p.ticket ≢ o.ticket) → HaveOwnTickets new
apart_filled old new s o set apart fresh t u a b at bt same =
    elim (cases_eq t s) as (λ _. t ≡ u) [
      | inl ts ↦ elim (cases_eq u s) as (λ _. t ≡ u) [
        | inl us ↦ ts ∙ sym us
        | inr un ↦ absurd (fresh u b (was old new s (Some o) u b set un bt) (sym same ∙ ap (λ (q : Ticketed). q.ticket) (filled old new s o t a set ts at)))
      ]
      | inr tn ↦ elim (cases_eq u s) as (λ _. t ≡ u) [
        | inl us ↦ absurd (fresh t a (was old new s (Some o) t a set tn at) (same ∙ ap (λ (q : Ticketed). q.ticket) (filled old new s o u b set us bt)))
        | inr un ↦ apart t u a b (was old new s (Some o) t a set tn at) (was old new s (Some o) u b set un bt) same
      ]
    ]

-- a slot was emptied
pub apart_cleared : (old new : List (Option Ticketed)) (s : ℕ) → IsSlotSet old new s None → HaveOwnTickets old → HaveOwnTickets new
apart_cleared old new s set apart t u a b at bt same =
    elim (cases_eq t s) as (λ _. t ≡ u) [
      | inl ts ↦ absurd (cleared old new s t a set ts at)
      | inr tn ↦ elim (cases_eq u s) as (λ _. t ≡ u) [
        | inl us ↦ absurd (cleared old new s u b set us bt)
        | inr un ↦ apart t u a b (was old new s None t a set tn at) (was old new s None u b set un bt) same
      ]
    ]

-- an empty slot was filled: the open ones are those and one more
pub opened_entered : (old new : List (Option Ticketed)) (s : ℕ) (o : Ticketed) → IsSlotSet old new s (Some o) → in_slot old s ≡ None → HaveOwnTickets old
    → ((t : ℕ) (p : Ticketed) → in_slot old t ≡ Some p → p.ticket ≢ o.ticket) → opened new ≡ by_ticket o (opened old)
opened_entered old new s o set free apart fresh =
    same_members (opened new) (by_ticket o (opened old)) (opened_tickets new (apart_filled old new s o set apart fresh))
    (tickets-by_ticket o (opened old) (each-of-all (λ (x : Ticketed). x.ticket ≢ o.ticket) (opened old) (λ x h. let r = opened_has old x h in fresh r.0 x r.1)) (opened_tickets old apart))
    (λ p h. let r = opened_has new p h in elim (cases_eq r.0 s) as (λ _. Has p (by_ticket o (opened old))) [
      | inl same ↦ subst (λ q. Has q (by_ticket o (opened old))) (sym (filled old new s o r.0 p set same r.1)) (has_put o (opened old))
      | inr other ↦ has_by_ticket o p (opened old) (has_opened old r.0 p (was old new s (Some o) r.0 p set other r.1))
    ])
    (λ p h. elim (by_ticket_has o p (opened old) h) as (λ _. Has p (opened new)) [
      | inl same ↦ subst (λ q. Has q (opened new)) same (has_opened new s o set.changed)
      | inr there ↦ (let r = opened_has old p there in
          elim (cases_eq r.0 s) as (λ _. Has p (opened new)) [
            | inl here ↦ absurd (let k : in_slot old s ≡ Some p = subst (λ n. in_slot old n ≡ Some p) here r.1 in cc)
            | inr other ↦ has_opened new r.0 p (set.others r.0 other ∙ r.1)
          ])
    ])

-- a slot was emptied: the open ones are the others
pub opened_taken : (old new : List (Option Ticketed)) (s : ℕ) (o : Ticketed) → IsSlotSet old new s None → in_slot old s ≡ Some o → HaveOwnTickets old
    → opened new ≡ without o.ticket (opened old)
opened_taken old new s o set there apart =
    same_members (opened new) (without o.ticket (opened old)) (opened_tickets new (apart_cleared old new s set apart))
    (two-filter (λ a b. a.ticket < b.ticket) (λ x. not (nat_eq x.ticket o.ticket)) (opened old) (opened_tickets old apart))
    (λ p h. let r = opened_has new p h in elim (cases_eq r.0 s) as (λ _. Has p (without o.ticket (opened old))) [
      | inl same ↦ absurd (cleared old new s r.0 p set same r.1)
      | inr other ↦ (let at = was old new s None r.0 p set other r.1 in
          let no : p.ticket ≢ o.ticket = λ e. other (apart r.0 s p o at there e) in
          let test : IsTrue (not (nat_eq p.ticket o.ticket)) = grind (arith, nat_tests) in
          Has-filter (λ x. not (nat_eq x.ticket o.ticket)) (opened old) p (has_opened old r.0 p at) test)
    ])
    (λ p h. let k = Has-filter-from (λ x. not (nat_eq x.ticket o.ticket)) (opened old) p h in
    let r = opened_has old p k.0 in
    let test : IsTrue (not (nat_eq p.ticket o.ticket)) = k.1 in
    let no : p.ticket ≢ o.ticket = grind (arith, nat_tests) in
    elim (cases_eq r.0 s) as (λ _. Has p (opened new)) [
      | inl here ↦ absurd (no (let at : in_slot old s ≡ Some p = subst (λ n. in_slot old n ≡ Some p) here r.1 in let same : p ≡ o = cc in ap (λ (q : Ticketed). q.ticket) same))
      | inr other ↦ has_opened new r.0 p (set.others r.0 other ∙ r.1)
    ])
