-- The one with a ticket in a list that grows, and of which some go.
use Rattle.std.proofs.Common.{◌≡◌, ◌≢◌, ℕ, ◌<◌, nat_eq, Bool, true, false, cond, not, List, [], ◌∷◌, ◌++◌, Some, None, inl, inr, refl, sym, ◌∙◌, ap, subst, arith}
use Rattle.std.proofs.lemmas.Bool.{eq-eqb}
use Rattle.std.proofs.lemmas.Bool.Decides.{nat_tests}
use Rattle.dp_model.specs.Lists.{Each}
use Rattle.dp_model.proofs.Members.{Has, each-has}
use Rattle.dp_laws.specs.Pairs.{EachTwo}
use Rattle.fringe.specs.Tickets.{Ticketed, IsEarlier, without}
use Rattle.journal_replay.specs.Replay.{listed_at}

-- what is found is listed, under that ticket
pub at-has : (t : ℕ) (os : List Ticketed) (o : Ticketed) → listed_at t os ≡ Some o → Has o os × (o.ticket ≡ t)
at-has t [] o h = absurd (cc)
at-has t (x ∷ os) o h =
    let Goal : Bool → Type 0 = λ b. cond b (Some x) (listed_at t os) ≡ Some o → Has o (x ∷ os) × (o.ticket ≡ t) in
    let go : (b : Bool) → nat_eq x.ticket t ≡ b → Goal b = λ b. elim b as (λ b. nat_eq x.ticket t ≡ b → Goal b) [
      | true ↦ λ e k. (let same : x ≡ o = cc in let here : x.ticket ≡ t = grind (arith, nat_tests) in (inl same, subst (λ (y : Ticketed). y.ticket ≡ t) same here))
      | false ↦ λ e k. (let r = at-has t os o k in (inr r.0, r.1))
    ] in go (nat_eq x.ticket t) refl h

-- where tickets rise, each that is listed is found under its own
pub has-at : (os : List Ticketed) (o : Ticketed) → EachTwo IsEarlier os → Has o os → listed_at o.ticket os ≡ Some o
has-at [] o rise h = absurd h
has-at (x ∷ os) o rise (inl same) =
    ap (λ b. cond b (Some x) (listed_at o.ticket os)) (eq-eqb x.ticket o.ticket (ap (λ (y : Ticketed). y.ticket) same)) ∙ ap (λ y. Some y) same
has-at (x ∷ os) o rise (inr h) =
    let less : x.ticket < o.ticket = each-has (IsEarlier x) os o rise.0 h in
    let other : nat_eq x.ticket o.ticket ≡ false = grind (arith, nat_tests) in
    ap (λ b. cond b (Some x) (listed_at o.ticket os)) other ∙ has-at os o rise.1 h

-- when another goes
pub at-without : (t gone : ℕ) (os : List Ticketed) → t ≢ gone → listed_at t (without gone os) ≡ listed_at t os
at-without t gone [] h = refl
at-without t gone (x ∷ os) h =
    let Goal : Bool → Type 0 = λ b. listed_at t (cond (not b) (x ∷ without gone os) (without gone os)) ≡ listed_at t (x ∷ os) in
    let go : (b : Bool) → nat_eq x.ticket gone ≡ b → Goal b = λ b. elim b as (λ b. nat_eq x.ticket gone ≡ b → Goal b) [
      | true ↦ λ e. (let other : nat_eq x.ticket t ≡ false = grind (arith, nat_tests) in at-without t gone os h ∙ sym (ap (λ b. cond b (Some x) (listed_at t os)) other))
      | false ↦ λ e. ap (λ r. cond (nat_eq x.ticket t) (Some x) r) (at-without t gone os h)
    ] in go (nat_eq x.ticket gone) refl

-- in the first of two lists
pub at-front : (t : ℕ) (xs ys : List Ticketed) (o : Ticketed) → listed_at t xs ≡ Some o → listed_at t (xs ++ ys) ≡ Some o
at-front t [] ys o h = absurd (cc)
at-front t (x ∷ xs) ys o h =
    let Goal : Bool → Type 0 = λ b. cond b (Some x) (listed_at t xs) ≡ Some o → cond b (Some x) (listed_at t (xs ++ ys)) ≡ Some o in
    let go : (b : Bool) → Goal b = λ b. elim b as Goal [ true ↦ λ k. k | false ↦ λ k. at-front t xs ys o k ] in
    go (nat_eq x.ticket t) h

-- in a list of later ones
pub at-none : (t : ℕ) (os : List Ticketed) → Each (λ o. t < o.ticket) os → listed_at t os ≡ None
at-none t [] h = refl
at-none t (x ∷ os) h =
    let less : t < x.ticket = h.0 in
    let other : nat_eq x.ticket t ≡ false = grind (arith, nat_tests) in
    ap (λ b. cond b (Some x) (listed_at t os)) other ∙ at-none t os h.1

-- at the end of a list that has it not
pub at-end : (xs : List Ticketed) (o : Ticketed) → Each (λ x. x.ticket ≢ o.ticket) xs → listed_at o.ticket (xs ++ o ∷ []) ≡ Some o
at-end [] o h = ap (λ b. cond b (Some o) None) (eq-eqb o.ticket o.ticket refl)
at-end (x ∷ xs) o h =
    let differ : x.ticket ≢ o.ticket = h.0 in
    let other : nat_eq x.ticket o.ticket ≡ false = grind (arith, nat_tests) in
    ap (λ b. cond b (Some x) (listed_at o.ticket (xs ++ o ∷ []))) other ∙ at-end xs o h.1
