-- What is carried from one frontier to the next.
use Rattle.std.proofs.Common.{◌≡◌, ℕ, ℤ, ◌+ℤ◌, ◌≤ℤ◌, pos, List, ◌++◌, length, true, Option, Some, None, ◌⊎◌, inl, inr, ap, subst, arith}
use Rattle.std.proofs.lemmas.Int.{ints}
use Rattle.dp_model.specs.Dp.{Dp}
use Rattle.dp_model.specs.Lists.{OneOf}
use Rattle.dp_model.specs.Numbers.{AtMost, OptionAtMost, is_above}
use Rattle.dp_model.specs.Prefixes.{IsContinuation, IsMatched, gain_of, value_of}
use Rattle.dp_model.specs.Subproblem.{IsOwn}
use Rattle.dp_model.proofs.Members.{Has, one-of-has}
use Rattle.dp_model.proofs.Paths.{value_of-append, completed}
use Rattle.fringe.specs.Tickets.{Ticketed}
use Rattle.board_laws.proofs.Lists.{one-map, one-mapped}
use Rattle.board_laws.specs.Board.{prefixes, reach_of}
use Rattle.board_laws.specs.Starts.{CoversFrom}
use Rattle.dp_laws.specs.Floors.{ReachesBelow, IsFloor, Carries}
use Rattle.dp_laws.proofs.Reaches.{at-most-raised, one-then}

pub option-self : (reach : Option ℤ) → OptionAtMost reach reach
option-self None = tt
option-self (Some r) = omega (arith, ints)

-- Over open and checked-out ones.

-- it reaches the value at the depth or below
abbrev pub Deep : Dp → ℕ → ℤ → Ticketed → Type 0
Deep dp k v o = ReachesBelow dp k v o.subproblem.decisions

-- what the first list reaches so, the second does too, unless it is at most the reach
abbrev pub CarriesBy : Dp → Option ℤ → List Ticketed → List Ticketed → Type 0
CarriesBy dp reach os qs = (k : ℕ) (v : ℤ) → OneOf (Deep dp k v) os → AtMost v reach ⊎ OneOf (Deep dp k v) qs

pub carries-from : (dp : Dp) (reach : Option ℤ) (os qs : List Ticketed) → CarriesBy dp reach os qs → Carries dp reach (prefixes os) (prefixes qs)
carries-from dp reach os qs h k v one =
    elim (h k v (one-map (λ (o : Ticketed). o.subproblem.decisions) (ReachesBelow dp k v) os one)) as (λ _. AtMost v reach ⊎ OneOf (ReachesBelow dp k v) (prefixes qs)) [
      | inl a ↦ inl a
      | inr b ↦ inr (one-mapped (λ (o : Ticketed). o.subproblem.decisions) (ReachesBelow dp k v) qs b)
    ]

-- a solution that is at most the reach or matched is so where the frontier is carried
met-carried : (dp : Dp) (reach more : Option ℤ) (P Q : List (List ℕ)) → OptionAtMost reach more → Carries dp more P Q
    → (x : List ℕ) → AtMost (value_of dp x) reach ⊎ OneOf (IsMatched dp x) P → AtMost (value_of dp x) more ⊎ OneOf (IsMatched dp x) Q
met-carried dp reach more P Q le carries x (inl low) = inl (at-most-raised (value_of dp x) reach more le low)
met-carried dp reach more P Q le carries x (inr one) =
    elim (carries 0 (value_of dp x) (one-then (IsMatched dp x) (ReachesBelow dp 0 (value_of dp x)) (λ p r. record { deep = omega arith; reaches = r }) P one)) as (λ _. AtMost (value_of dp x) more ⊎ OneOf (IsMatched dp x) Q) [
      | inl low ↦ inl low
      | inr other ↦ inr (one-then (ReachesBelow dp 0 (value_of dp x)) (IsMatched dp x) (λ p r. r.reaches) Q other)
    ]

-- a cover from start prefixes is carried
pub from-carried : (dp : Dp) (starts : List (List ℕ)) (reach more : Option ℤ) (P Q : List (List ℕ)) → OptionAtMost reach more → Carries dp more P Q → CoversFrom dp starts reach P → CoversFrom dp starts more Q
from-carried dp starts reach more P Q le carries h x s begun = met-carried dp reach more P Q le carries x (h x s begun)

-- the floor of a prefix that is in the list
pub own-floor : (dp : Dp) (reach : Option ℤ) (qs : List Ticketed) (o : Ticketed) → IsOwn dp o.subproblem → Has o qs
    → IsFloor dp reach (prefixes qs) (length o.subproblem.decisions) o.subproblem.row o.subproblem.value
own-floor dp reach qs o own in_list c cont =
    let p = o.subproblem.decisions in
    let here = subst (λ s. IsContinuation dp (length p) s c) own.row cont in
    let whole = value_of-append dp p c in
    let value = own.value in
    let gain = ap (λ s. gain_of dp (length p) s c) own.row in
    inr (one-mapped (λ (q : Ticketed). q.subproblem.decisions) (ReachesBelow dp (length p) (o.subproblem.value +ℤ gain_of dp (length p) o.subproblem.row c)) qs
    (one-of-has (Deep dp (length p) (o.subproblem.value +ℤ gain_of dp (length p) o.subproblem.row c)) qs o
    (record { deep = omega arith; reaches = record { by = p ++ c; completion = completed dp p c own.prefix here; least = omega (arith, ints) } })
    in_list))

-- a better incumbent reaches as far
pub reach-rises : (within : ℤ) (inc : Option ℤ) (value : ℤ) → is_above inc value ≡ true → OptionAtMost (reach_of within inc) (reach_of within (Some value))
reach-rises within None value h = tt
reach-rises within (Some old) value h = grind (arith, ints)

-- no incumbent is above its reach
pub reach-above : (within : ℤ) (inc : Option ℤ) → pos 0 ≤ℤ within → OptionAtMost inc (reach_of within inc)
reach-above within None least = tt
reach-above within (Some old) least = omega (arith, ints)
