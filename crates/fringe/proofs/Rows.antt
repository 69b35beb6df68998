-- Rows that are the same, and subproblems of one depth and state.
use Rattle.std.proofs.Common.{◌≡◌, ℕ, ◌<◌, not, ℤ, List, [], ◌∷◌, length, Bool, true, false, nat_eq, ◌&&◌, cond, Some, None, refl, sym, ◌∙◌, ap, ap₂, subst, arith}
use Rattle.std.proofs.lemmas.Bool.{and_parts, eqb-true, eq-eqb}
use Rattle.std.proofs.lemmas.Bool.Decides.{nat_tests}
use Rattle.dp_model.specs.Lists.{Each}
use Rattle.dp_model.specs.Rows.{row_same}
use Rattle.dp_model.proofs.RowLemmas.{row_same-is}
use Rattle.dp_laws.specs.Pairs.{EachTwo}
use Rattle.dp_model.proofs.Members.{Each-then}
use Rattle.fringe.proofs.Tickets.{without-later}
use Rattle.dp_model.proofs.RowTests.{same-self, same-tests}
use Rattle.fringe.specs.Tickets.{Ticketed, HasTickets, without}
use Rattle.fringe.specs.Fringe.{is_same, same_at, AreDifferent}

-- the depth and the row of one that is the same
pub same-depth : (depth : ℕ) (row : List ℤ) (o : Ticketed) → is_same depth row o ≡ true → depth ≡ length o.subproblem.decisions
same-depth depth row o h = sym (eqb-true (length o.subproblem.decisions) depth (and_parts (nat_eq (length o.subproblem.decisions) depth) (row_same o.subproblem.row row) h).0)

pub same-row : (depth : ℕ) (row : List ℤ) (o : Ticketed) → is_same depth row o ≡ true → row ≡ o.subproblem.row
same-row depth row o h = sym (row_same-is o.subproblem.row row (and_parts (nat_eq (length o.subproblem.decisions) depth) (row_same o.subproblem.row row) h).1)

is-same : (depth : ℕ) (row : List ℤ) (o : Ticketed) → depth ≡ length o.subproblem.decisions → row ≡ o.subproblem.row → is_same depth row o ≡ true
is-same depth row o d r = ap₂ (λ a b. a && b) (eq-eqb (length o.subproblem.decisions) depth (sym d)) (same-self o.subproblem.row row (sym r))

-- of two that differ each differs from the other
pub different-turned : (a b : Ticketed) → AreDifferent a b → AreDifferent b a
different-turned a b h =
    same-tests (is_same (length b.subproblem.decisions) b.subproblem.row a) false
    (λ e. sym h ∙ is-same (length a.subproblem.decisions) a.subproblem.row b (sym (same-depth (length b.subproblem.decisions) b.subproblem.row a e)) (sym (same-row (length b.subproblem.decisions) b.subproblem.row a e)))
    (λ e. absurd (cc))

-- none is the same where none is found
pub same-none : (depth : ℕ) (row : List ℤ) (os : List Ticketed) → same_at depth row os ≡ None → Each (λ o. is_same depth row o ≡ false) os
same-none depth row [] h = tt
same-none depth row (x ∷ os) h =
    let go : (b : Bool) → is_same depth row x ≡ b → cond b (Some x) (same_at depth row os) ≡ None → Each (λ o. is_same depth row o ≡ false) (x ∷ os) =
    λ b. elim b as (λ b. is_same depth row x ≡ b → cond b (Some x) (same_at depth row os) ≡ None → Each (λ o. is_same depth row o ≡ false) (x ∷ os)) [ true ↦ λ e k. absurd (cc) | false ↦ λ e k. (e, same-none depth row os k) ] in
    go (is_same depth row x) refl h

-- what each has, the one that is found has
found-has : (depth : ℕ) (row : List ℤ) (P : Ticketed → Type 0) (os : List Ticketed) (other : Ticketed) → same_at depth row os ≡ Some other → Each P os → P other
found-has depth row P [] other h all = absurd (cc)
found-has depth row P (x ∷ os) other h all =
    let go : (b : Bool) → cond b (Some x) (same_at depth row os) ≡ Some other → P other =
    λ b. elim b as (λ b. cond b (Some x) (same_at depth row os) ≡ Some other → P other) [ true ↦ λ k. (let same : x ≡ other = cc in subst P same all.0) | false ↦ λ k. found-has depth row P os other k all.1 ] in
    go (is_same depth row x) h

-- the one that is found stands first
here-others : (depth : ℕ) (row : List ℤ) (x : Ticketed) (os : List Ticketed) (other : Ticketed) → is_same depth row x ≡ true → x ≡ other → HasTickets (x ∷ os) → EachTwo AreDifferent (x ∷ os)
    → Each (λ o. is_same depth row o ≡ false) (without other.ticket (x ∷ os))
here-others depth row x os other e same rise two =
    let here : nat_eq x.ticket x.ticket ≡ true = eq-eqb x.ticket x.ticket refl in
    let rest : without x.ticket (x ∷ os) ≡ os = ap (λ b. cond (not b) (x ∷ without x.ticket os) (without x.ticket os)) here ∙ without-later x.ticket os rise.0 in
    let differ : Each (λ o. is_same depth row o ≡ false) os = Each-then (AreDifferent x) (λ o. is_same depth row o ≡ false) os
    (λ o k. ap₂ (λ d r. is_same d r o) (same-depth depth row x e) (same-row depth row x e) ∙ k) two.0 in
    subst (λ (y : Ticketed). Each (λ o. is_same depth row o ≡ false) (without y.ticket (x ∷ os))) same (subst (λ (l : List Ticketed). Each (λ o. is_same depth row o ≡ false) l) (sym rest) differ)

-- it stands later
later-others : (depth : ℕ) (row : List ℤ) (x : Ticketed) (os : List Ticketed) (other : Ticketed) → is_same depth row x ≡ false → x.ticket < other.ticket
    → Each (λ o. is_same depth row o ≡ false) (without other.ticket os) → Each (λ o. is_same depth row o ≡ false) (without other.ticket (x ∷ os))
later-others depth row x os other e less rest =
    let there : nat_eq x.ticket other.ticket ≡ false = grind (arith, nat_tests) in
    let stays : without other.ticket (x ∷ os) ≡ x ∷ without other.ticket os = ap (λ b. cond (not b) (x ∷ without other.ticket os) (without other.ticket os)) there in
    let both : Each (λ o. is_same depth row o ≡ false) (x ∷ without other.ticket os) = (e, rest) in
    subst (λ (l : List Ticketed). Each (λ o. is_same depth row o ≡ false) l) (sym stays) both

-- none of the others is the same as the one that is found
pub same-others : (depth : ℕ) (row : List ℤ) (os : List Ticketed) (other : Ticketed) → same_at depth row os ≡ Some other → HasTickets os → EachTwo AreDifferent os
    → Each (λ o. is_same depth row o ≡ false) (without other.ticket os)
same-others depth row [] other h rise two = tt
same-others depth row (x ∷ os) other h rise two =
    let go : (b : Bool) → is_same depth row x ≡ b → cond b (Some x) (same_at depth row os) ≡ Some other → Each (λ o. is_same depth row o ≡ false) (without other.ticket (x ∷ os)) =
    λ b. elim b as (λ b. is_same depth row x ≡ b → cond b (Some x) (same_at depth row os) ≡ Some other → Each (λ o. is_same depth row o ≡ false) (without other.ticket (x ∷ os))) [
      | true ↦ λ e k. (let same : x ≡ other = cc in here-others depth row x os other e same rise two)
      | false ↦ λ e k. later-others depth row x os other e (found-has depth row (λ y. x.ticket < y.ticket) os other k rise.0) (same-others depth row os other k rise.1 two.1)
    ] in
    go (is_same depth row x) refl h
