-- The parts of a good board over lists of what is out or open.
use Rattle.std.proofs.Common.{◌≡◌, ◌≢◌, ℕ, ℤ, List, [], ◌∷◌, Bool, true, false, ◌&&◌, nat_eq, Option, Some, None, ◌⊎◌, inl, inr, refl, sym, ◌∙◌, arith}
use Rattle.std.proofs.lemmas.Int.{ints}
use Rattle.std.proofs.lemmas.Bool.Decides.{nat_tests}
use Rattle.std.specs.List.{sum_by}
use Rattle.dp_model.specs.Cover.{IsHeld}
use Rattle.dp_model.specs.Decisions.{begins}
use Rattle.dp_model.specs.Dp.{Dp}
use Rattle.dp_model.specs.Lists.{Each, OneOf}
use Rattle.dp_model.specs.Numbers.{AtMost, is_above}
use Rattle.dp_model.specs.Prefixes.{IsMatched, value_of}
use Rattle.dp_model.specs.Subproblem.{Subproblem}
use Rattle.std.proofs.lemmas.Bool.{and_parts}
use Rattle.dp_laws.specs.Pairs.{EachTwo}
use Rattle.fringe.specs.Tickets.{Ticketed}
use Rattle.board_laws.proofs.With.{IsWith, each-out, each-in, one-out_of, one-in, two-out, two-in, sum-with}
use Rattle.dp_laws.specs.Children.{AreApart}
use Rattle.dp_laws.proofs.Reaches.{at-most-then}

-- Numbers beside an option.

-- what is not above an option is at most it
pub not-above : (inc : Option ℤ) (z : ℤ) → is_above inc z ≡ false → AtMost z inc
not-above None z h = absurd (cc)
not-above (Some b) z h = grind (arith, ints)

-- Moving one member from one place to another.

pub each-moved : {X : Type 0} (P : X → Type 0) (o : X) (rest xs ys : List X) → IsWith o rest xs → IsWith o rest ys → Each P xs → Each P ys
each-moved P o rest xs ys from to h = let r = each-out P o rest xs from h in each-in P o rest ys to r.0 r.1

pub one-moved : {X : Type 0} (P : X → Type 0) (o : X) (rest xs ys : List X) → IsWith o rest xs → IsWith o rest ys → OneOf P xs → OneOf P ys
one-moved P o rest xs ys from to h = one-in P o rest ys to (one-out_of P o rest xs from h)

pub two-moved : {X : Type 0} (R : X → X → Type 0) → ((x y : X) → R x y → R y x) → (o : X) (rest xs ys : List X) → IsWith o rest xs → IsWith o rest ys → EachTwo R xs → EachTwo R ys
two-moved R flip o rest xs ys from to h = let r = two-out R flip o rest xs from h in two-in R flip o rest ys to r.0 r.1

pub sum-moved : {X : Type 0} (f : X → ℕ) (o : X) (rest xs ys : List X) → IsWith o rest xs → IsWith o rest ys → sum_by f ys ≡ sum_by f xs
sum-moved f o rest xs ys from to = sum-with f o rest ys to ∙ sym (sum-with f o rest xs from)

pub tickets-flip : (a o : Ticketed) → a.ticket ≢ o.ticket → o.ticket ≢ a.ticket
tickets-flip a o h e = h (sym e)

pub apart-flip : (a o : Ticketed) → AreApart a.subproblem o.subproblem → AreApart o.subproblem a.subproblem
apart-flip a o h = record { first = h.second; second = h.first }

-- Matches, and bounds that are held.

-- a solution is matched by one of the list
abbrev pub MatchedBy : Dp → List ℕ → Ticketed → Type 0
MatchedBy dp x o = IsMatched dp x o.subproblem.decisions

-- the bound of an open or checked-out one is held
abbrev pub HeldBy : Dp → Option ℤ → Ticketed → Type 0
HeldBy dp inc o = IsHeld dp inc o.subproblem.decisions o.subproblem.bound

-- a solution that is matched by a prefix whose held bound is at most the incumbent is at most the incumbent
pub matched-below : (dp : Dp) (x : List ℕ) (inc : Option ℤ) (p : List ℕ) (bound : ℤ) → IsMatched dp x p → IsHeld dp inc p bound → AtMost bound inc → AtMost (value_of dp x) inc
matched-below dp x inc p bound m held low =
    elim (held m.by m.completion) as (λ _. AtMost (value_of dp x) inc) [
      | inl le ↦ at-most-then (value_of dp x) bound inc (let least = m.least in omega (arith, ints)) low
      | inr most ↦ at-most-then (value_of dp x) (value_of dp m.by) inc m.least most
    ]

-- Prefixes that are apart.

and-true : (x y : Bool) → x ≡ true → y ≡ true → (x && y) ≡ true
and-true true y h k = k
and-true false y h k = absurd (cc)

same-then : (d e f : ℕ) → nat_eq d e ≡ true → nat_eq e f ≡ true → nat_eq d f ≡ true
same-then d e f h k = grind (arith, nat_tests)

same-from : (d e f : ℕ) → nat_eq d f ≡ true → nat_eq e f ≡ true → nat_eq d e ≡ true
same-from d e f h k = grind (arith, nat_tests)

begins-then : (a b c : List ℕ) → begins a b ≡ true → begins b c ≡ true → begins a c ≡ true
begins-then [] b c h k = refl
begins-then (d ∷ a) [] c h k = absurd (cc)
begins-then (d ∷ a) (e ∷ b) [] h k = absurd (cc)
begins-then (d ∷ a) (e ∷ b) (f ∷ c) h k =
    let first = and_parts (nat_eq d e) (begins a b) h in
    let second = and_parts (nat_eq e f) (begins b c) k in
    and-true (nat_eq d f) (begins a c) (same-then d e f first.0 second.0) (begins-then a b c first.1 second.1)

-- of two that a list begins with, one begins with the other
begins-either : (a b c : List ℕ) → begins a c ≡ true → begins b c ≡ true → (begins a b ≡ true) ⊎ (begins b a ≡ true)
begins-either [] b c h k = inl refl
begins-either (d ∷ a) [] c h k = inr refl
begins-either (d ∷ a) (e ∷ b) [] h k = absurd (cc)
begins-either (d ∷ a) (e ∷ b) (f ∷ c) h k =
    let first = and_parts (nat_eq d f) (begins a c) h in
    let second = and_parts (nat_eq e f) (begins b c) k in
    elim (begins-either a b c first.1 second.1) as (λ _. (begins (d ∷ a) (e ∷ b) ≡ true) ⊎ (begins (e ∷ b) (d ∷ a) ≡ true)) [
      | inl x ↦ inl (and-true (nat_eq d e) (begins a b) (same-from d e f first.0 second.0) x)
      | inr x ↦ inr (and-true (nat_eq e d) (begins b a) (same-from e d f second.0 first.0) x)
    ]

not-true : (b : Bool) → (b ≡ true → ⊥) → b ≡ false
not-true true h = absurd (h refl)
not-true false h = refl

-- what is apart from a prefix is apart from each that begins with it
pub apart-child : (p y c : Subproblem) → AreApart p y → begins p.decisions c.decisions ≡ true → AreApart y c
apart-child p y c h extends = record {
  first = not-true (begins y.decisions c.decisions) (λ k.
      elim (begins-either p.decisions y.decisions c.decisions extends k) as (λ _. ⊥) [ inl x ↦ (let no = h.first in absurd (cc)) | inr x ↦ (let no = h.second in absurd (cc)) ]);
  second = not-true (begins c.decisions y.decisions) (λ k. let x = begins-then p.decisions c.decisions y.decisions extends k in let no = h.first in absurd (cc));
}
