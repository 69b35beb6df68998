-- What the list in order of ticket says of the slots.
use Rattle.std.proofs.Common.{◌≡◌, ℕ, zero, suc, ◌<◌, ℤ, List, [], ◌∷◌, length, find, Bool, true, false, cond, Option, Some, None, inl, inr, refl, sym, ◌∙◌, ap, ap₂, subst, arith}
use Rattle.std.proofs.lemmas.Bool.Decides.{nat_tests}
use Rattle.std.proofs.lemmas.Int.{ints}
use Rattle.dp_model.proofs.Members.{Has, each-has}
use Rattle.fringe.specs.Tickets.{Ticketed, HasTickets}
use Rattle.fringe.specs.Firsts.{is_taken_before, first_taken, first_from}
use Rattle.fringe.specs.Fringe.{is_same, same_at}
use Rattle.fringe.proofs.Rows.{same-depth, same-row}
use Rattle.fringe.specs.Slots.{in_slot, opened, HaveOwnTickets, IsOpen, IsFirstSlot, is_same_in}
use Rattle.fringe.proofs.Openeds.{has_opened, opened_has, opened_tickets}
use Rattle.fringe.proofs.Takings.{first_taken-is}

same_ticket : (os : List Ticketed) (a b : Ticketed) → HasTickets os → Has a os → Has b os → a.ticket ≡ b.ticket → a ≡ b
same_ticket [] a b h ha hb e = absurd ha
same_ticket (x ∷ os) a b h ha hb e =
    let later : (o : Ticketed) → Has o os → x.ticket < o.ticket = λ o k. each-has (λ (y : Ticketed). x.ticket < y.ticket) os o h.0 k in
    elim ha as (λ _. a ≡ b) [
      | inl xa ↦ elim hb as (λ _. a ≡ b) [
        | inl xb ↦ sym xa ∙ xb
        | inr kb ↦ absurd (let l = later b kb in let s : x.ticket ≡ a.ticket = ap (λ (q : Ticketed). q.ticket) xa in omega arith)
      ]
      | inr ka ↦ elim hb as (λ _. a ≡ b) [
        | inl xb ↦ absurd (let l = later a ka in let s : x.ticket ≡ b.ticket = ap (λ (q : Ticketed). q.ticket) xb in omega arith)
        | inr kb ↦ same_ticket os a b h.1 ka kb e
      ]
    ]

neither : (a b : Ticketed) → is_taken_before a b ≡ false → is_taken_before b a ≡ false → a.ticket ≡ b.ticket
neither a b h k = grind (arith, ints, nat_tests)

-- the one that none is taken before is the first
pub first_of : (os : List Ticketed) (o : Ticketed) → HasTickets os → Has o os → ((p : Ticketed) → Has p os → is_taken_before p o ≡ false) → first_taken os ≡ Some o
first_of [] o h has none = absurd has
first_of (x ∷ os) o h has none =
    let f = first_taken-is (x ∷ os) (first_from x os) refl in
    let a = each-has (λ (p : Ticketed). is_taken_before p (first_from x os) ≡ false) (x ∷ os) o f.first has in
    let b = none (first_from x os) f.one in
    ap (λ (q : Ticketed). Some q) (same_ticket (x ∷ os) (first_from x os) o h f.one has (neither (first_from x os) o b a))

pub best_first : (slots : List (Option Ticketed)) (s : ℕ) → HaveOwnTickets slots → (best : IsFirstSlot slots s) → first_taken (opened slots) ≡ Some best.one
best_first slots s apart best =
    first_of (opened slots) best.one (opened_tickets slots apart) (has_opened slots s best.one best.there)
    (λ p h. let r = opened_has slots p h in best.first r.0 p r.1)

pub opened_none : (slots : List (Option Ticketed)) → ((s : ℕ) → in_slot slots s ≡ None) → opened slots ≡ []
opened_none [] none = refl
opened_none (None ∷ slots) none = opened_none slots (λ s. none (suc s))
opened_none (Some o ∷ slots) none = absurd (let k = none zero in cc)

find_one : (p : Ticketed → Bool) (os : List Ticketed) (o : Ticketed) → Has o os → p o ≡ true → ((q : Ticketed) → Has q os → p q ≡ true → q ≡ o) → find p os ≡ Some o
find_one p [] o has t one = absurd has
find_one p (x ∷ os) o has t one =
    let go : (b : Bool) → p x ≡ b → cond b (Some x) (find p os) ≡ Some o =
    λ b. elim b as (λ b. p x ≡ b → cond b (Some x) (find p os) ≡ Some o) [
      | true ↦ λ e. ap (λ (q : Ticketed). Some q) (one x (inl refl) e)
      | false ↦ λ e. elim has as (λ _. find p os ≡ Some o) [
        | inl same ↦ absurd (let k : p o ≡ false = subst (λ q. p q ≡ false) same e in cc)
        | inr later ↦ find_one p os o later t (λ q h. one q (inr h))
      ]
    ] in
    go (p x) refl

find_none : (p : Ticketed → Bool) (os : List Ticketed) → ((q : Ticketed) → Has q os → p q ≡ false) → find p os ≡ None
find_none p [] none = refl
find_none p (x ∷ os) none = ap (λ b. cond b (Some x) (find p os)) (none x (inl refl)) ∙ find_none p os (λ q h. none q (inr h))

-- the slot has the one of the depth and state
pub same_found : (words : ℕ) (slots : List (Option Ticketed)) (depth : ℕ) (row : List ℤ) (s : ℕ) (o : Ticketed) → IsOpen words slots → in_slot slots s ≡ Some o → is_same depth row o ≡ true
    → same_at depth row (opened slots) ≡ Some o
same_found words slots depth row s o held at same =
    find_one (is_same depth row) (opened slots) o (has_opened slots s o at) same
    (λ q h t. let r = opened_has slots q h in
    let turned : is_same (length o.subproblem.decisions) o.subproblem.row q ≡ true =
    ap₂ (λ d w. is_same d w q) (sym (same-depth depth row o same)) (sym (same-row depth row o same)) ∙ t in
    let slot : s ≡ r.0 = held.different s r.0 o q at r.1 turned in
    let there : in_slot slots s ≡ Some q = subst (λ n. in_slot slots n ≡ Some q) (sym slot) r.1 in cc)

-- no slot has one of the depth and state
pub same_absent : (slots : List (Option Ticketed)) (depth : ℕ) (row : List ℤ) → ((s : ℕ) → is_same_in depth row (in_slot slots s) ≡ false) → same_at depth row (opened slots) ≡ None
same_absent slots depth row none =
    find_none (is_same depth row) (opened slots)
    (λ q h. let r = opened_has slots q h in subst (λ x. is_same_in depth row x ≡ false) r.1 (none r.0))
