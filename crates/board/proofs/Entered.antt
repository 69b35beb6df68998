-- Tickets after a push.
use Rattle.std.proofs.Common.{[], ◌∷◌, ◌++◌, map, refl, ap, ◌≡◌, ◌≢◌, ℕ, ◌+◌, ◌<◌, int_le, true, false, cond, not, nat_eq, List, Some, None, arith}
use Rattle.dp_model.specs.Dp.{Dp}
use Rattle.dp_model.specs.Subproblem.{Subproblem}
use Rattle.dominance_table.specs.Entries.{TableView, after_put}
use Rattle.board_laws.specs.Entering.{entering, entry_of}
use Rattle.board_laws.specs.Fates.{ticket_after}
use Rattle.board_laws.specs.Pushes.{AreThreaded, noted_by, own_of, push_one, put_each}
use Rattle.board_laws.specs.declared.fate.Fate.{Fate}
use Rattle.board_laws.specs.declared.fate.Fate.TheVariants.{Below, Kept, Dominated, Replaced, Entered}
use Rattle.dp_model.specs.Lists.{Each}
use Rattle.dp_model.proofs.Members.{Each-then}
use Rattle.dp_laws.proofs.Lists.{each-filter}
use Rattle.fringe.specs.Fringe.{same_open}
use Rattle.fringe.specs.Pushing.{pushed_beside, after_push}
use Rattle.fringe.specs.Tickets.{Ticketed, by_ticket, without}
use Rattle.fringe.proofs.Tickets.{each-by_ticket}

pub each-push : (P : Ticketed → Type 0) (o : Ticketed) (os : List Ticketed) → P o → Each P os → Each P (after_push o os)
each-push P o os one h =
    elim (same_open o.subproblem os) as (λ s. Each P (pushed_beside o os s)) [
      | None ↦ each-by_ticket P o os one h
      | Some other ↦ elim (int_le o.subproblem.value other.subproblem.value) as (λ b. Each P (cond b os (by_ticket o (without other.ticket os)))) [
        | true ↦ h
        | false ↦ each-by_ticket P o (without other.ticket os) one (each-filter P (λ x. not (nat_eq x.ticket other.ticket)) os h)
      ]
    ]

pub below_push : (next : ℕ) (o : Ticketed) (os : List Ticketed) → o.ticket ≡ next → Each (λ x. x.ticket < next) os → Each (λ x. x.ticket < next + 1) (after_push o os)
below_push next o os is h = each-push (λ x. x.ticket < next + 1) o os (omega arith) (Each-then (λ (x : Ticketed). x.ticket < next) (λ x. x.ticket < next + 1) os (λ x k. omega arith) h)

pub new_ticket : (next own : ℕ) (os : List Ticketed) → own ≡ next → Each (λ x. x.ticket < next) os → Each (λ x. x.ticket ≢ own) os
new_ticket next own os is h = Each-then (λ (x : Ticketed). x.ticket < next) (λ x. x.ticket ≢ own) os (λ x k. omega arith) h

-- By the ticket of the child.

pub own_is : (next own : ℕ) (f : Fate) → AreThreaded next (f ∷ []) → Some own ≡ own_of f → own ≡ next
own_is next own Below h e = absurd (cc)
own_is next own (Kept by) h e = absurd (cc)
own_is next own (Dominated by) h e = absurd (cc)
own_is next own (Replaced mine old) h e = (let first = h.0 in cc)
own_is next own (Entered mine) h e = (let first = h.0 in cc)

pub note_none : (dp : Dp) (t : TableView) (c : Subproblem) (f : Fate) → None ≡ own_of f → t ≡ put_each t (noted_by dp c f)
note_none dp t c Below e = refl
note_none dp t c (Kept by) e = refl
note_none dp t c (Dominated by) e = refl
note_none dp t c (Replaced mine old) e = absurd (cc)
note_none dp t c (Entered mine) e = absurd (cc)

pub note_some : (dp : Dp) (t : TableView) (c : Subproblem) (f : Fate) (own : ℕ) → Some own ≡ own_of f → after_put t (entry_of dp (record { ticket = own; subproblem = c })) ≡ put_each t (noted_by dp c f)
note_some dp t c Below own e = absurd (cc)
note_some dp t c (Kept by) own e = absurd (cc)
note_some dp t c (Dominated by) own e = absurd (cc)
note_some dp t c (Replaced mine old) own e = (let same : own ≡ mine = cc in ap (λ n. after_put t (entry_of dp (record { ticket = n; subproblem = c }))) same)
note_some dp t c (Entered mine) own e = (let same : own ≡ mine = cc in ap (λ n. after_put t (entry_of dp (record { ticket = n; subproblem = c }))) same)

pub push_none : (os : List Ticketed) (c : Subproblem) (f : Fate) → None ≡ own_of f → os ≡ push_one c f os
push_none os c Below e = refl
push_none os c (Kept by) e = refl
push_none os c (Dominated by) e = refl
push_none os c (Replaced mine old) e = absurd (cc)
push_none os c (Entered mine) e = absurd (cc)

pub push_some : (os : List Ticketed) (c : Subproblem) (f : Fate) (own : ℕ) → Some own ≡ own_of f → after_push (record { ticket = own; subproblem = c }) os ≡ push_one c f os
push_some os c Below own e = absurd (cc)
push_some os c (Kept by) own e = absurd (cc)
push_some os c (Dominated by) own e = absurd (cc)
push_some os c (Replaced mine old) own e = (let same : own ≡ mine = cc in ap (λ n. after_push (record { ticket = n; subproblem = c }) os) same)
push_some os c (Entered mine) own e = (let same : own ≡ mine = cc in ap (λ n. after_push (record { ticket = n; subproblem = c }) os) same)

pub ticket_none : (next : ℕ) (f : Fate) → None ≡ own_of f → next ≡ ticket_after next f
ticket_none next Below e = refl
ticket_none next (Kept by) e = refl
ticket_none next (Dominated by) e = refl
ticket_none next (Replaced mine old) e = absurd (cc)
ticket_none next (Entered mine) e = absurd (cc)

pub ticket_some : (next : ℕ) (f : Fate) (own : ℕ) → Some own ≡ own_of f → next + 1 ≡ ticket_after next f
ticket_some next Below own e = absurd (cc)
ticket_some next (Kept by) own e = absurd (cc)
ticket_some next (Dominated by) own e = absurd (cc)
ticket_some next (Replaced mine old) own e = refl
ticket_some next (Entered mine) own e = refl

-- The first fate of several.

pub threaded_here : (next : ℕ) (f : Fate) (fs : List Fate) → AreThreaded next (f ∷ fs) → AreThreaded next (f ∷ [])
threaded_here next Below fs h = tt
threaded_here next (Kept by) fs h = tt
threaded_here next (Dominated by) fs h = tt
threaded_here next (Replaced mine old) fs h = (h.0, tt)
threaded_here next (Entered mine) fs h = (h.0, tt)

pub threaded_rest : (next : ℕ) (f : Fate) (fs : List Fate) → AreThreaded next (f ∷ fs) → AreThreaded (ticket_after next f) fs
threaded_rest next Below fs h = h
threaded_rest next (Kept by) fs h = h
threaded_rest next (Dominated by) fs h = h
threaded_rest next (Replaced mine old) fs h = h.1
threaded_rest next (Entered mine) fs h = h.1

pub note_then : (dp : Dp) (t : TableView) (c : Subproblem) (f : Fate) (cs : List Subproblem) (fs : List Fate)
    → put_each (put_each t (noted_by dp c f)) (map (entry_of dp) (entering cs fs)) ≡ put_each t (map (entry_of dp) (entering (c ∷ cs) (f ∷ fs)))
note_then dp t c Below cs fs = refl
note_then dp t c (Kept by) cs fs = refl
note_then dp t c (Dominated by) cs fs = refl
note_then dp t c (Replaced mine old) cs fs = refl
note_then dp t c (Entered mine) cs fs = refl

pub popped_each : {X : Type 0} (P : X → Type 0) (xs : List X) (x : X) → Each P (xs ++ x ∷ []) → Each P xs
popped_each P [] x h = tt
popped_each P (y ∷ ys) x h = (h.0, popped_each P ys x h.1)

pub popped_last : {X : Type 0} (P : X → Type 0) (xs : List X) (x : X) → Each P (xs ++ x ∷ []) → P x
popped_last P [] x h = h.0
popped_last P (y ∷ ys) x h = popped_last P ys x h.1
