-- Searches from start prefixes.
use Rattle.std.proofs.Common.{ℕ, ◌+◌, ◌<◌, ◌≤◌, ℤ, Bool, true, false, cond, List, [], ◌∷◌, Option, inl, inr, refl, IsTrue, arith}
use Rattle.std.proofs.lemmas.Int.{ints}
use Rattle.std.proofs.lemmas.List.Sums.{sum_by-cons}
use Rattle.std.specs.List.{sum_by}
use Rattle.dp_model.specs.Cover.{IsHeld}
use Rattle.dp_model.specs.Decisions.{begins}
use Rattle.dp_model.specs.Dp.{Dp}
use Rattle.dp_model.specs.Lists.{Each}
use Rattle.dp_model.specs.Numbers.{IsFar}
use Rattle.dp_model.specs.Prefixes.{IsMatched, IsSolution}
use Rattle.dp_model.specs.Subproblem.{IsOwn}
use Rattle.dp_model.proofs.RowLemmas.{begins-is}
use Rattle.dp_laws.specs.Children.{AreApart}
use Rattle.dp_laws.specs.Pairs.{EachTwo}
use Rattle.dp_laws.proofs.Reaches.{one-then}
use Rattle.fringe.specs.Tickets.{Ticketed, IsEarlier}
use Rattle.board_laws.specs.Board.{reach_of, value_held, prefixes}
use Rattle.board_laws.specs.GoodBoard.{pot_of, share_of}
use Rattle.board_laws.specs.Laws.{PartsKeep, StartsCover}
use Rattle.board_laws.specs.Starts.{CoversFrom, chosen}

-- Covers.

-- a solution is matched by a prefix with which it begins
own-matched : (dp : Dp) (x p : List ℕ) → IsSolution dp x → IsTrue (begins p x) → IsMatched dp x p
own-matched dp x p s begun = let rest = begins-is p x begun in record { by = x; completion = record { solution = s; rest = rest.0; begins = rest.1 }; least = omega (arith, ints) }

pub own-covers : (dp : Dp) (inc : Option ℤ) (P : List (List ℕ)) → CoversFrom dp P inc P
own-covers dp inc P x s begun = inr (one-then (λ (p : List ℕ). IsTrue (begins p x)) (IsMatched dp x) (λ p h. own-matched dp x p s h) P begun)

pub starts-cover : (dp : Dp) → StartsCover dp
starts-cover dp = record {
  each = λ starts b h. record {
    covers = λ x s begun. h.covers x s (inl refl);
    held = h.held;
    floors = h.floors;
    apart = h.apart;
    ends = h.ends;
    balanced = h.balanced;
    shares = h.shares;
  };
  own = own-covers dp;
  whole = λ inc P covers x s. covers x s (inl refl);
}

-- Parts of lists.

pub each-chosen : {X : Type 0} (P : X → Type 0) (p : ℕ → Bool) (i : ℕ) (xs : List X) → Each P xs → Each P (chosen p i xs)
each-chosen P p i [] h = tt
each-chosen P p i (x ∷ xs) h =
    let rest = each-chosen P p (i + 1) xs h.1 in
    elim (p i) as (λ b. Each P (cond b (x ∷ chosen p (i + 1) xs) (chosen p (i + 1) xs))) [ true ↦ (h.0, rest) | false ↦ rest ]

two-chosen : {X : Type 0} (R : X → X → Type 0) (p : ℕ → Bool) (i : ℕ) (xs : List X) → EachTwo R xs → EachTwo R (chosen p i xs)
two-chosen R p i [] h = tt
two-chosen R p i (x ∷ xs) h =
    let rest = two-chosen R p (i + 1) xs h.1 in
    elim (p i) as (λ b. EachTwo R (cond b (x ∷ chosen p (i + 1) xs) (chosen p (i + 1) xs))) [ true ↦ (each-chosen (R x) p (i + 1) xs h.0, rest) | false ↦ rest ]

sum-chosen : {X : Type 0} (f : X → ℕ) (p : ℕ → Bool) (i : ℕ) (xs : List X) → sum_by f (chosen p i xs) ≤ sum_by f xs
sum-chosen f p i [] = omega arith
sum-chosen f p i (x ∷ xs) =
    let rest = sum-chosen f p (i + 1) xs in
    let whole = sum_by-cons f x xs in
    let kept = sum_by-cons f x (chosen p (i + 1) xs) in
    elim (p i) as (λ b. sum_by f (cond b (x ∷ chosen p (i + 1) xs) (chosen p (i + 1) xs)) ≤ sum_by f (x ∷ xs)) [ true ↦ omega arith | false ↦ omega arith ]

pub parts-keep : (dp : Dp) → PartsKeep dp
parts-keep dp best os next p = record {
  restores = λ m. record {
    incumbent = m.incumbent;
    own = each-chosen (λ (o : Ticketed). IsOwn dp o.subproblem) p 0 os m.own;
    far = each-chosen (λ (o : Ticketed). IsFar o.subproblem.bound) p 0 os m.far;
    ordered = two-chosen IsEarlier p 0 os m.ordered;
    given = each-chosen (λ (o : Ticketed). o.ticket < next) p 0 os m.given;
  };
  sound = λ starts within finished s.
      let reach = reach_of within (value_held best) in
      let part = chosen p 0 os in
      let pots = sum-chosen (pot_of dp) p 0 os in
      let shares = sum-chosen (share_of dp) p 0 os in
      let ends_whole = s.ends in
      let shares_whole = s.shares in
      record {
        covers = own-covers dp reach (prefixes part);
        held = each-chosen (λ (o : Ticketed). IsHeld dp reach o.subproblem.decisions o.subproblem.bound) p 0 os s.held;
        apart = two-chosen (λ (a o : Ticketed). AreApart a.subproblem o.subproblem) p 0 os s.apart;
        ends = omega arith;
        shares = omega arith;
      };
}
