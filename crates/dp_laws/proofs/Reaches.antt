-- What is left out, as all that is at most a reach, and what stands for the rest: floors, and children.
use Rattle.std.proofs.Common.{◌≡◌, ℕ, ◌≤◌, ℤ, ◌+ℤ◌, ◌≤ℤ◌, pos, List, [], ◌∷◌, length, map, Option, Some, None, ◌⊎◌, inl, inr, subst, arith}
use Rattle.std.proofs.lemmas.Int.{ints}
use Rattle.dp_model.specs.Cover.{Covers, IsHeld}
use Rattle.dp_model.specs.Dp.{Dp}
use Rattle.dp_model.specs.Laws.{IsLawful}
use Rattle.dp_model.specs.Lists.{OneOf}
use Rattle.dp_model.specs.Numbers.{AtMost, OptionAtMost}
use Rattle.dp_model.specs.Prefixes.{IsPrefix, IsCompletion, IsMatched, gain_of, state_of, value_of}
use Rattle.dp_model.specs.Subproblem.{Subproblem}
use Rattle.dp_model.proofs.Members.{Each-then}
use Rattle.dp_model.proofs.Paths.{state_of-state, continued, value_of-split}
use Rattle.dp_laws.specs.Children.{SoundChildrenFollow, found_value}
use Rattle.dp_laws.specs.Floors.{ReachesBelow, IsFloor, FloorsMatch, Carries}
use Rattle.dp_laws.proofs.Matching.{completions-matched}

pub one-then : {X : Type 0} (P Q : X → Type 0) → ((x : X) → P x → Q x) → (xs : List X) → OneOf P xs → OneOf Q xs
one-then P Q f [] h = absurd h
one-then P Q f (x ∷ xs) (inl h) = inl (f x h)
one-then P Q f (x ∷ xs) (inr h) = inr (one-then P Q f xs h)

pub at-most-then : (a b : ℤ) (reach : Option ℤ) → a ≤ℤ b → AtMost b reach → AtMost a reach
at-most-then a b None le h = h
at-most-then a b (Some c) le h = omega (arith, ints)

-- what is at most the lesser reach is at most the greater one
pub at-most-raised : (z : ℤ) (reach more : Option ℤ) → OptionAtMost reach more → AtMost z reach → AtMost z more
at-most-raised z None more le h = absurd h
at-most-raised z (Some r) more le h = at-most-then z r more h le

-- Floors.

-- less deep, and of less value
pub deep-less : (dp : Dp) (j k : ℕ) (v w : ℤ) (p : List ℕ) → j ≤ k → v ≤ℤ w → ReachesBelow dp k w p → ReachesBelow dp j v p
deep-less dp j k v w p less low r =
    let deep = r.deep in
    let least = r.reaches.least in
    record { deep = omega arith; reaches = record { by = r.reaches.by; completion = r.reaches.completion; least = omega (arith, ints) } }

pub floors-match : (dp : Dp) → IsLawful dp → FloorsMatch dp
floors-match dp laws reach P a v g q prefix state floor gap within x comp =
    let cont = continued dp q x comp in
    let match = laws.gaps.sound (length q) a (state_of dp q) g state (state_of-state dp laws.states q prefix) gap comp.rest cont in
    let split = value_of-split dp q x comp in
    let enough = match.enough in
    let w : ℤ = v +ℤ gain_of dp (length q) a match.by in
    let less : value_of dp x ≤ℤ (v +ℤ gain_of dp (length q) a match.by) = omega (arith, ints) in
    elim (floor match.by match.continuation) as (λ _. AtMost (value_of dp x) reach ⊎ OneOf (ReachesBelow dp (length q) (value_of dp x)) P) [
      | inl low ↦ inl (at-most-then (value_of dp x) w reach less low)
      | inr one ↦ inr (one-then (ReachesBelow dp (length q) w) (ReachesBelow dp (length q) (value_of dp x)) (λ p r. deep-less dp (length q) (length q) (value_of dp x) w p (omega arith) less r) P one)
    ]

-- a cover is carried
pub covers-carried : (dp : Dp) (reach more : Option ℤ) (P Q : List (List ℕ)) → OptionAtMost reach more → Carries dp more P Q → Covers dp reach P → Covers dp more Q
covers-carried dp reach more P Q le carries h x s =
    elim (h x s) as (λ _. AtMost (value_of dp x) more ⊎ OneOf (IsMatched dp x) Q) [
      | inl a ↦ inl (at-most-raised (value_of dp x) reach more le a)
      | inr m ↦ elim (carries 0 (value_of dp x) (one-then (IsMatched dp x) (ReachesBelow dp 0 (value_of dp x)) (λ p r. record { deep = omega arith; reaches = r }) P m)) as (λ _. AtMost (value_of dp x) more ⊎ OneOf (IsMatched dp x) Q) [
        | inl a ↦ inl a
        | inr b ↦ inr (one-then (ReachesBelow dp 0 (value_of dp x)) (IsMatched dp x) (λ p r. r.reaches) Q b)
      ]
    ]

-- a floor is carried
pub floor-carried : (dp : Dp) (reach more : Option ℤ) (P Q : List (List ℕ)) → OptionAtMost reach more → Carries dp more P Q
    → (k : ℕ) (a : List ℤ) (v : ℤ) → IsFloor dp reach P k a v → IsFloor dp more Q k a v
floor-carried dp reach more P Q le carries k a v h c cont =
    elim (h c cont) as (λ _. AtMost (v +ℤ gain_of dp k a c) more ⊎ OneOf (ReachesBelow dp k (v +ℤ gain_of dp k a c)) Q) [
      | inl low ↦ inl (at-most-raised (v +ℤ gain_of dp k a c) reach more le low)
      | inr one ↦ carries k (v +ℤ gain_of dp k a c) one
    ]

-- of two prefixes of one depth and state, that of the greater value matches
pub same-state-matches : (dp : Dp) → IsLawful dp → (a p : List ℕ) → IsPrefix dp a → IsPrefix dp p → length a ≡ length p → state_of dp a ≡ state_of dp p
    → value_of dp p ≤ℤ value_of dp a → (x : List ℕ) → IsCompletion dp p x → IsMatched dp x a
same-state-matches dp laws a p at_a at_p level same less x comp =
    completions-matched dp laws a p at_a at_p level
    (record {
      gap = pos 0;
      is = subst (λ s. dp.gap (length a) (state_of dp a) s ≡ Some (pos 0)) same (laws.gaps.own (length a) (state_of dp a) (state_of-state dp laws.states a at_a));
      within = omega (arith, ints);
    })
    x comp

-- Children.

pub sound-follow : (dp : Dp) → SoundChildrenFollow dp
sound-follow dp reach t found p cs low best few far s = record {
  few = few;
  own = s.own;
  apart = s.apart;
  differ = s.differ;
  far = far;
  held = Each-then (λ c. IsHeld dp t c.decisions c.bound) (λ c. IsHeld dp reach c.decisions c.bound) cs
      (λ c h x comp. elim (h x comp) as (λ _. (value_of dp x ≤ℤ c.bound) ⊎ AtMost (value_of dp x) reach) [ inl a ↦ inl a | inr b ↦ inr (at-most-raised (value_of dp x) t reach low b) ]) s.held;
  matched = λ x comp.
      let Answer : Type 0 = AtMost (value_of dp x) reach ⊎ OneOf (IsMatched dp x) (map (λ (c : Subproblem). c.decisions) cs) in
      elim (s.matched x comp) as (λ _. Answer) [
        | inl a ↦ inl (at-most-raised (value_of dp x) t reach low a)
        | inr more ↦ elim more as (λ _. Answer) [ inl a ↦ inl (at-most-raised (value_of dp x) (found_value found) reach best a) | inr b ↦ inr b ]
      ];
}
