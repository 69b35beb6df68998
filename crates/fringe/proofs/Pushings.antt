-- What a push finds and leaves.
use Rattle.std.proofs.Common.{◌≡◌, ◌≢◌, ℕ, ◌<◌, ℤ, List, Bool, true, false, cond, not, nat_eq, int_le, Option, Some, None, inl, inr, refl, sym, ◌∙◌, ap₂, subst}
use Rattle.std.proofs.lemmas.Bool.{cases_eq}
use Rattle.dp_model.specs.Lists.{Each}
use Rattle.dp_model.proofs.Members.{each-has}
use Rattle.fringe.specs.Fringe.{is_same, same_open}
use Rattle.fringe.specs.Pushing.{pushed_beside, after_push}
use Rattle.fringe.specs.Tickets.{Ticketed, by_ticket, without}
use Rattle.fringe.proofs.Rows.{same-depth, same-row}
use Rattle.fringe.specs.Slots.{IsOpen, IsSlotSet, in_slot, is_same_in, opened}
use Rattle.fringe.specs.Stored.{HasSame, HasNone}
use Rattle.fringe.proofs.Openeds.{has_opened, was, cleared}
use Rattle.dp_laws.proofs.Lists.{each-filter}
use Rattle.fringe.proofs.Tickets.{each-by_ticket}
use Rattle.fringe.proofs.Views.{same_found, same_absent}

pub fresh_of : (slots : List (Option Ticketed)) (ticket : ℕ) → Each (λ o. o.ticket ≢ ticket) (opened slots) → (t : ℕ) (p : Ticketed) → in_slot slots t ≡ Some p → p.ticket ≢ ticket
fresh_of slots ticket fresh t p at = each-has (λ (o : Ticketed). o.ticket ≢ ticket) (opened slots) p fresh (has_opened slots t p at)

pub fresh_less : (old new : List (Option Ticketed)) (s ticket : ℕ) → IsSlotSet old new s None → Each (λ o. o.ticket ≢ ticket) (opened old)
    → (t : ℕ) (p : Ticketed) → in_slot new t ≡ Some p → p.ticket ≢ ticket
fresh_less old new s ticket set fresh t p at =
    elim (cases_eq t s) as (λ _. p.ticket ≢ ticket) [
      | inl ts ↦ absurd (cleared old new s t p set ts at)
      | inr tn ↦ fresh_of old ticket fresh t p (was old new s None t p set tn at)
    ]

-- without the one of the depth and state there is none
pub alone_less : (words : ℕ) (old new : List (Option Ticketed)) (depth : ℕ) (row : List ℤ) (s : ℕ) (o : Ticketed) → IsOpen words old → in_slot old s ≡ Some o → is_same depth row o ≡ true
    → IsSlotSet old new s None → (t : ℕ) → is_same_in depth row (in_slot new t) ≡ false
alone_less words old new depth row s o held there same set t =
    let go : (x : Option Ticketed) → in_slot new t ≡ x → is_same_in depth row x ≡ false =
    λ x. elim x as (λ x. in_slot new t ≡ x → is_same_in depth row x ≡ false) [
      | None ↦ λ e. refl
      | Some q ↦ λ e. (let turn : (b : Bool) → is_same depth row q ≡ b → b ≡ false =
          λ b. elim b as (λ b. is_same depth row q ≡ b → b ≡ false) [
            | true ↦ λ k. elim (cases_eq t s) as (λ _. true ≡ false) [
              | inl ts ↦ absurd (cleared old new s t q set ts e)
              | inr tn ↦ absurd (tn (sym (held.different s t o q there (was old new s None t q set tn e)
                  (ap₂ (λ d w. is_same d w q) (sym (same-depth depth row o same)) (sym (same-row depth row o same)) ∙ k))))
            ]
            | false ↦ λ k. refl
          ] in turn (is_same depth row q) refl)
    ] in go (in_slot new t) refl

pub has_same : (words : ℕ) (slots : List (Option Ticketed)) (depth : ℕ) (row : List ℤ) (s : ℕ) (o : Ticketed) (ticket : ℕ) (worth : ℤ) → IsOpen words slots → in_slot slots s ≡ Some o → is_same_in depth row (in_slot slots s) ≡ true
    → ticket ≡ o.ticket → worth ≡ o.subproblem.value → HasSame slots depth row s ticket worth
has_same words slots depth row s o ticket worth held there test t w =
    let same : is_same depth row o ≡ true = subst (λ x. is_same_in depth row x ≡ true) there test in
    record { one = o; there = there; same = same; found = same_found words slots depth row s o held there same; ticket_is = t; worth_is = w }

pub has_none : (slots : List (Option Ticketed)) (depth : ℕ) (row : List ℤ) → ((s : ℕ) → is_same_in depth row (in_slot slots s) ≡ false) → HasNone slots depth row
has_none slots depth row none = record { none = none; found = same_absent slots depth row none }

-- tickets stay below what they and the new one are below
pub each-push : (n : ℕ) (o : Ticketed) (os : List Ticketed) → o.ticket < n → Each (λ (x : Ticketed). x.ticket < n) os → Each (λ (x : Ticketed). x.ticket < n) (after_push o os)
each-push n o os less h =
    let P : Ticketed → Type 0 = λ x. x.ticket < n in
    let go : (s : Option Ticketed) → Each P (pushed_beside o os s) =
    λ s. elim s as (λ s. Each P (pushed_beside o os s)) [
      | None ↦ each-by_ticket P o os less h
      | Some other ↦ elim (int_le o.subproblem.value other.subproblem.value) as (λ b. Each P (cond b os (by_ticket o (without other.ticket os)))) [
        | true ↦ h
        | false ↦ each-by_ticket P o (without other.ticket os) less (each-filter P (λ x. not (nat_eq x.ticket other.ticket)) os h)
      ]
    ] in
    go (same_open o.subproblem os)
