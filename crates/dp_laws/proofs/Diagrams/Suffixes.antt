-- What a suffix bounds.
use Rattle.std.proofs.Common.{◌≡◌, ℕ, ◌+◌, ◌<◌, nat_lt, ℤ, pos, ◌+ℤ◌, ◌≤ℤ◌, true, false, List, [], ◌∷◌, length, slice_get, Option, Some, None, inl, inr, refl, sym, ◌∙◌, ap, subst, arith, option_and_then}
use Rattle.std.proofs.lemmas.Int.{ints}
use Rattle.std.specs.List.{filter_map}
use Rattle.dp_model.specs.Dp.{Dp}
use Rattle.dp_model.specs.Laws.{IsLawful}
use Rattle.dp_model.specs.Numbers.{AtMost, add_some}
use Rattle.dp_model.specs.Prefixes.{IsContinuation, gain_of}
use Rattle.dp_model.proofs.Members.{Has, each-has}
use Rattle.dp_laws.specs.declared.arc.DdArc.{DdArc}
use Rattle.dp_laws.specs.Diagrams.Nodes.{DdNode}
use Rattle.dp_laws.specs.Diagrams.Seen.{suffix_at, suffix_from, IsBounded, IsLayer, AreLayers}
use Rattle.dp_laws.proofs.Diagrams.Places.{Has-at, Has-filter_map, greatest-at_least}
use Rattle.dp_laws.proofs.Diagrams.Following.{GoesOn, goes-on, states-of}

-- a number that is at most another one at most the option is at most the option
pub at_most-below : (a b : ℤ) (o : Option ℤ) → a ≤ℤ b → AtMost b o → AtMost a o
at_most-below a b None h k = absurd k
at_most-below a b (Some z) h k = let low : b ≤ℤ z = k in omega (arith, ints)

-- the last layer has suffixes of 0
last : (dp : Dp) (p : List ℕ) (w : ℕ) (t : Option ℤ) (k : ℕ) (layer : List DdNode) → IsLayer dp p w t k layer [] → k ≡ dp.vars → (node : DdNode) → Has node layer → node.suffix ≡ Some (pos 0)
last dp p w t k layer l e node h =
    let is = each-has (λ (x : DdNode). x.suffix ≡ suffix_from dp k [] x.arcs) layer node l.suffixes h in
    let outside : nat_lt k dp.vars ≡ false = grind arith in
    is ∙ rw outside refl

-- a suffix is at least the length of an arc and the suffix of its target
suffix-over : (dp : Dp) (k : ℕ) (next : List DdNode) (arcs : List DdArc) (arc : DdArc) (i : ℕ) (target : DdNode) (z : ℤ) → k < dp.vars → Has arc arcs → arc.target ≡ Some i → slice_get next i ≡ Some target → target.suffix ≡ Some z
    → AtMost ((arc.gain +ℤ arc.longer) +ℤ z) (suffix_from dp k next arcs)
suffix-over dp k next arcs arc i target z short has aims at ends =
    let inside : nat_lt k dp.vars ≡ true = grind arith in
    let more : suffix_at next arc.target ≡ Some z = ap (suffix_at next) aims ∙ (ap (option_and_then (λ (n : DdNode). n.suffix)) at ∙ ends) in
    let sum : add_some (arc.gain +ℤ arc.longer) (suffix_at next arc.target) ≡ Some ((arc.gain +ℤ arc.longer) +ℤ z) = ap (add_some (arc.gain +ℤ arc.longer)) more in
    rw inside (greatest-at_least (filter_map (λ (x : DdArc). add_some (x.gain +ℤ x.longer) (suffix_at next x.target)) arcs) ((arc.gain +ℤ arc.longer) +ℤ z)
    (Has-filter_map (λ (x : DdArc). add_some (x.gain +ℤ x.longer) (suffix_at next x.target)) arcs arc ((arc.gain +ℤ arc.longer) +ℤ z) has sum))

-- the gain of what goes on is no more than the suffix, where the target's rest is no more than the target's
over-target : (dp : Dp) (k : ℕ) (next : List DdNode) (node : DdNode) (gain : ℤ) (g : GoesOn dp k node next gain) (rest : Option ℤ) → k < dp.vars → node.suffix ≡ suffix_from dp k next node.arcs
    → g.target.suffix ≡ rest → AtMost (gain_of dp (k + 1) g.target.row g.by) rest → AtMost gain node.suffix
over-target dp k next node gain g None short is ends bound = absurd bound
over-target dp k next node gain g (Some z) short is ends bound =
    let over = suffix-over dp k next node.arcs g.arc g.place g.target z short g.has g.aims g.at ends in
    let low : gain_of dp (k + 1) g.target.row g.by ≤ℤ z = bound in
    let kept = g.kept in
    let less : gain ≤ℤ ((g.arc.gain +ℤ g.arc.longer) +ℤ z) = omega (arith, ints) in
    subst (λ o. AtMost gain o) (sym is) (at_most-below gain ((g.arc.gain +ℤ g.arc.longer) +ℤ z) (suffix_from dp k next node.arcs) less over)

-- a continuation gains no more than the suffix, or leads to no more than the threshold
pub bounded : (dp : Dp) → IsLawful dp → (p : List ℕ) (w : ℕ) (t : Option ℤ) (k : ℕ) (layer : List DdNode) (more : List (List DdNode)) → AreLayers dp p w t k (layer ∷ more) → k + length more ≡ dp.vars
    → (node : DdNode) → Has node layer → (c : List ℕ) → IsContinuation dp k node.row c → IsBounded t node (gain_of dp k node.row c)
bounded dp laws p w t k layer [] all e node has [] path = inr (let ends = last dp p w t k layer all (omega arith) node has in rw ends (omega (arith, ints)))
bounded dp laws p w t k layer [] all e node has (d ∷ c) path = absurd (let whole : k + length (d ∷ c) ≡ dp.vars = path.whole in omega arith)
bounded dp laws p w t k layer (next ∷ rest) all e node has c path =
    let short : k < dp.vars = omega arith in
    let is = each-has (λ (x : DdNode). x.suffix ≡ suffix_from dp k next x.arcs) layer node all.0.suffixes has in
    elim (goes-on dp laws p w t k layer next all.0 (states-of dp p w t (k + 1) next rest all.1) node has short c path) as (λ _. IsBounded t node (gain_of dp k node.row c)) [
      | inl struck ↦ inl struck
      | inr g ↦ elim (bounded dp laws p w t (k + 1) next rest all.1 (omega arith) g.target (Has-at next g.place g.target g.at) g.by g.continuation) as (λ _. IsBounded t node (gain_of dp k node.row c)) [
        | inl low ↦ (let reached = g.reached in let kept = g.kept in
            let less : (node.value +ℤ gain_of dp k node.row c) ≤ℤ (g.target.value +ℤ gain_of dp (k + 1) g.target.row g.by) = omega (arith, ints) in
            inl (at_most-below (node.value +ℤ gain_of dp k node.row c) (g.target.value +ℤ gain_of dp (k + 1) g.target.row g.by) t less low))
        | inr low ↦ inr (over-target dp k next node (gain_of dp k node.row c) g g.target.suffix short is refl low)
      ]
    ]
