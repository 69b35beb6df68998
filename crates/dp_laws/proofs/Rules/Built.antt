-- A layer with its arcs, and the next one as it stays.
use Rattle.std.proofs.Common.{◌≡◌, ℕ, zero, suc, ◌+◌, ◌-◌, ◌<◌, ◌≤◌, nat_lt, ℤ, pos, ◌+ℤ◌, ◌≤ℤ◌, int_le, true, false, cond, ◌&&◌, List, [], ◌∷◌, ◌++◌, length, map, take, drop, slice_get, Option, Some, None, inl, inr, IsTrue, refl, sym, ◌∙◌, ap, subst, arith, length-append}
use Rattle.std.proofs.lemmas.Int.{ints}
use Rattle.std.proofs.lemmas.List.{length-take-le}
use Rattle.dp_model.specs.Dp.{Dp}
use Rattle.dp_model.specs.Gaps.{is_struck_by, IsStateOf}
use Rattle.dp_model.specs.Laws.{IsLawful, IsChained}
use Rattle.dp_model.specs.Lists.{Each}
use Rattle.dp_model.proofs.Members.{Has, Has-map-from, Has-append-cases}
use Rattle.std.proofs.lemmas.Bool.{and_parts}
use Rattle.dp_laws.specs.Restricted.Beam.{is_reduced}
use Rattle.dp_laws.specs.Pairs.{EachTwo}
use Rattle.dp_laws.proofs.Lists.{two-take}
use Rattle.dp_laws.specs.declared.arc.DdArc.{DdArc}
use Rattle.dp_laws.specs.Diagrams.Nodes.{DdNode}
use Rattle.dp_laws.specs.Diagrams.Seen.{decisions_at, IsReachedBy}
use Rattle.dp_laws.proofs.Diagrams.Places.{same-Some}
use Rattle.dp_laws.specs.Rules.Redirects.{Redirect, redirected, with_redirected}
use Rattle.dp_laws.specs.Rules.Expanding.{new_layer, arc_of, with_arcs}
use Rattle.dp_laws.specs.Rules.Pruning.{pruned_nodes, prune_redirects}
use Rattle.dp_laws.specs.Rules.Reducing.{merged_node, merged_layer, merge_redirects}
use Rattle.dp_laws.specs.Rules.Compiling.{TwoLayers, expand, prune, merge_rest, is_wide, reduced, built}
use Rattle.dp_laws.proofs.Rules.Linked.{AreLinked}
use Rattle.dp_laws.proofs.Rules.Redirecting.{followed_node, AreStruck, linked-redirected, redirected-decision-of, linked-target}
use Rattle.dp_laws.proofs.Rules.Layers.{Differ, AreNodes, nodes-mapped, state-of}
use Rattle.dp_laws.proofs.Rules.Expanded.{arc-of, leads-into, step-state, most-reaching, linked-expanded, new-nodes}
use Rattle.dp_laws.proofs.Rules.Pruned.{pruned-nodes, prune-redirects, struck-node}
use Rattle.dp_laws.proofs.Rules.Merged.{covered, merge-redirects-of, none-gone}

-- the arcs of a layer make states of the next one
abbrev pub StepsAreStates : Dp → ℕ → List DdNode → Type 0
StepsAreStates dp k above = (x : DdNode) → Has x above → (arc : DdArc) → Has arc x.arcs → IsStateOf dp (k + 1) (dp.step k x.row arc.decision)

-- two layers as they should be
pub record AreBuilt (dp : Dp) (p : List ℕ) (t : Option ℤ) (k : ℕ) (two : TwoLayers) : Type 0 where
  pub linked : AreLinked dp t k two.above two.next
  pub above : AreNodes dp p k two.above
  pub next : AreNodes dp p (k + 1) two.next
  pub steps : StepsAreStates dp k two.above

-- Expanding.

expanded-built : (dp : Dp) → IsLawful dp → (t : Option ℤ) (p : List ℕ) (k : ℕ) (layer : List DdNode) → AreNodes dp p k layer → k < dp.vars → length p ≤ k → AreBuilt dp p t k (expand dp k layer)
expanded-built dp laws t p k layer h low deep = record {
  linked = linked-expanded dp laws t p k layer h low;
  above = nodes-mapped dp p k layer (λ (node : DdNode). record node { arcs = map (arc_of dp k (new_layer dp k layer) node.row) (decisions_at dp k node.row) }) (λ x. record { row = refl; value = refl; exact = refl; path = refl }) h;
  next = new-nodes dp laws p k layer h low deep;
  steps = λ x has arc listed. (
      let a = arc-of dp k layer (new_layer dp k layer) x arc has listed in
      let row : x.row ≡ a.node.row = ap (λ (n : DdNode). n.row) a.from in
      let decision : arc.decision ≡ a.decision = ap (λ (b : DdArc). b.decision) a.is in
      let base = step-state dp laws p k layer h low a.node a.has a.decision a.listed in
      subst (λ d. IsStateOf dp (k + 1) (dp.step k x.row d)) (sym decision) (subst (λ s. IsStateOf dp (k + 1) (dp.step k s a.decision)) (sym row) base));
}

-- Pruning.

struck-less : (v y : ℤ) (rough t : Option ℤ) → v ≤ℤ y → IsTrue (is_struck_by y rough t) → IsTrue (is_struck_by v rough t)
struck-less v y None t low h = refl
struck-less v y (Some r) None low h = h
struck-less v y (Some r) (Some top) low h =
    let test : int_le (y +ℤ r) top ≡ true = h in
    let most : (y +ℤ r) ≤ℤ top = grind (arith, ints) in
    let less : (v +ℤ r) ≤ℤ top = omega (arith, ints) in
    grind (arith, ints)

struck-arcs : (dp : Dp) → IsLawful dp → (t : Option ℤ) (p : List ℕ) (k : ℕ) (layer : List DdNode) → AreNodes dp p k layer → k < dp.vars → AreNodes dp p (k + 1) (new_layer dp k layer) → AreStruck dp t k (with_arcs dp k (new_layer dp k layer) layer) (prune_redirects dp (k + 1) t [] 0 (new_layer dp k layer))
struck-arcs dp laws t p k layer h low new = λ x has arc listed i aims gone.
    let next = new_layer dp k layer in
    let a = arc-of dp k layer next x arc has listed in
    let f = leads-into dp k layer a.node a.decision low a.has a.listed in
    let place : f.place ≡ i = same-Some f.place i (sym f.found ∙ (ap (λ (b : DdArc). b.target) (sym a.is) ∙ aims)) in
    let at : slice_get next i ≡ Some f.node = ap (slice_get next) (sym place) ∙ f.at in
    let struck : IsTrue (is_struck_by f.node.value (dp.rough (k + 1) f.node.row) t) = struck-node dp laws p (k + 1) t next new (omega arith) i f.node at gone in
    let row : f.node.row ≡ dp.step k x.row arc.decision =
    f.same ∙ (ap (λ s. dp.step k s a.decision) (sym (ap (λ (n : DdNode). n.row) a.from)) ∙ ap (dp.step k x.row) (sym (ap (λ (b : DdArc). b.decision) a.is))) in
    let top = most-reaching dp k layer low i f.node at (x.value +ℤ (arc.gain +ℤ arc.longer)) (record { source = x; has = has; arc = arc; listed = listed; aims = aims; is = refl }) in
    let longer : arc.longer ≡ pos 0 = ap (λ (b : DdArc). b.longer) a.is in
    struck-less (x.value +ℤ arc.gain) f.node.value (dp.rough (k + 1) (dp.step k x.row arc.decision)) t (omega (arith, ints)) (subst (λ r. IsTrue (is_struck_by f.node.value (dp.rough (k + 1) r) t)) row struck)

steps-redirected : (dp : Dp) (k : ℕ) (above : List DdNode) (redirects : List (Option Redirect)) → StepsAreStates dp k above → StepsAreStates dp k (with_redirected redirects above)
steps-redirected dp k above redirects h = λ x has arc listed.
    let from = Has-map-from (followed_node redirects) above x has in
    let arcs : x.arcs ≡ map (redirected redirects) from.0.arcs = ap (λ (n : DdNode). n.arcs) (sym from.2) in
    let row : x.row ≡ from.0.row = ap (λ (n : DdNode). n.row) (sym from.2) in
    let old = Has-map-from (redirected redirects) from.0.arcs arc (subst (λ as_. Has arc as_) arcs listed) in
    let decision : arc.decision ≡ old.0.decision = ap (λ (b : DdArc). b.decision) (sym old.2) ∙ redirected-decision-of redirects old.0 in
    subst (λ d. IsStateOf dp (k + 1) (dp.step k x.row d)) (sym decision) (subst (λ s. IsStateOf dp (k + 1) (dp.step k s old.0.decision)) (sym row) (h from.0 from.1 old.0 old.1))

nodes-redirected : (dp : Dp) (p : List ℕ) (k : ℕ) (above : List DdNode) (redirects : List (Option Redirect)) → AreNodes dp p k above → AreNodes dp p k (with_redirected redirects above)
nodes-redirected dp p k above redirects h = nodes-mapped dp p k above (followed_node redirects) (λ x. record { row = refl; value = refl; exact = refl; path = refl }) h

pruned-built : (dp : Dp) → IsLawful dp → IsChained dp → (t : Option ℤ) (p : List ℕ) (k : ℕ) (layer : List DdNode) → AreNodes dp p k layer → k < dp.vars → length p ≤ k → AreBuilt dp p t k (prune dp (k + 1) t (expand dp k layer))
pruned-built dp laws chained t p k layer h low deep =
    let b = expanded-built dp laws t p k layer h low deep in
    let next = new_layer dp k layer in
    let redirects = prune_redirects dp (k + 1) t [] 0 next in
    let kept = pruned-nodes dp p (k + 1) t next b.next in
    record {
      linked = linked-redirected dp chained t k (with_arcs dp k next layer) next (pruned_nodes dp (k + 1) t [] 0 next) redirects b.linked (prune-redirects dp laws p (k + 1) t next b.next (omega arith)) (struck-arcs dp laws t p k layer h low b.next)
          (state-of dp p (k + 1) next b.next (omega arith)) (state-of dp p (k + 1) (pruned_nodes dp (k + 1) t [] 0 next) kept (omega arith)) b.steps;
      above = nodes-redirected dp p k (with_arcs dp k next layer) redirects b.above;
      next = kept;
      steps = steps-redirected dp k (with_arcs dp k next layer) redirects b.steps;
    }

-- Merging.

each-then : (y : DdNode) (ys : List DdNode) (x : DdNode) → Each (Differ y) ys → Differ y x → Each (Differ y) (ys ++ x ∷ [])
each-then y [] x h other = (other, tt)
each-then y (z ∷ ys) x h other = (h.0, each-then y ys x h.1 other)

-- what is among the first is in the list
pub in-take : (n : ℕ) (xs : List DdNode) (x : DdNode) → Has x (take n xs) → Has x xs
in-take zero xs x h = absurd h
in-take (suc n) [] x h = absurd h
in-take (suc n) (y ∷ xs) x (inl same) = inl same
in-take (suc n) (y ∷ xs) x (inr later) = inr (in-take n xs x later)

two-then : (xs : List DdNode) (x : DdNode) → EachTwo Differ xs → ((y : DdNode) → Differ y x) → EachTwo Differ (xs ++ x ∷ [])
two-then [] x h other = (tt, tt)
two-then (y ∷ ys) x h other = (each-then y ys x h.0 (other y), two-then ys x h.1 other)

merged-nodes : (dp : Dp) → IsLawful dp → (p : List ℕ) (k n : ℕ) (layer : List DdNode) → AreNodes dp p k layer → k ≤ dp.vars → n + 1 < length layer → AreNodes dp p k (merged_layer dp k (n + 1) layer)
merged-nodes dp laws p k n layer h low wide =
    let same : n + 1 - 1 ≡ n = omega arith in
    let one = merged_node dp k (drop n layer) in
    let in-front : (x : DdNode) → Has x (take n layer) → Has x layer = λ x has. in-take n layer x has in
    let done : AreNodes dp p k (take n layer ++ one ∷ []) = record {
      states = λ x has. elim (Has-append-cases x (take n layer) (one ∷ []) has) as (λ _. IsTrue (dp.is_state k x.row)) [
        | inl front ↦ h.states x (in-front x front)
        | inr last ↦ elim last as (λ _. IsTrue (dp.is_state k x.row)) [ inl e ↦ subst (λ (y : DdNode). IsTrue (dp.is_state k y.row)) e (covered dp laws k n layer wide (state-of dp p k layer h low)).state.test | inr none ↦ absurd none ]
      ];
      reached = λ x has exact. elim (Has-append-cases x (take n layer) (one ∷ []) has) as (λ _. IsReachedBy dp p k x) [
        | inl front ↦ h.reached x (in-front x front) exact
        | inr last ↦ elim last as (λ _. IsReachedBy dp p k x) [ inl e ↦ absurd (let clash : false ≡ true = ap (λ (y : DdNode). y.exact) e ∙ exact in cc) | inr none ↦ absurd none ]
      ];
      differ = two-then (take n layer) one (two-take Differ n layer h.differ) (λ y ey eo. absurd (let clash : false ≡ true = eo in cc));
    } in
    subst (λ m. AreNodes dp p k (take m layer ++ merged_node dp k (drop m layer) ∷ [])) (sym same) done

merged-built : (dp : Dp) → IsLawful dp → IsChained dp → (t : Option ℤ) (p : List ℕ) (k n : ℕ) (two : TwoLayers) → AreBuilt dp p t k two → k < dp.vars → n + 1 < length two.next → AreBuilt dp p t k (merge_rest dp (k + 1) (n + 1) two)
merged-built dp laws chained t p k n two b low wide =
    let states = state-of dp p (k + 1) two.next b.next (omega arith) in
    let redirects = merge_redirects dp (k + 1) (n + 1) two.next in
    let kept = merged-nodes dp laws p (k + 1) n two.next b.next (omega arith) wide in
    record {
      linked = linked-redirected dp chained t k two.above two.next (merged_layer dp (k + 1) (n + 1) two.next) redirects b.linked (merge-redirects-of dp laws (k + 1) n two.next wide states)
          (λ x has arc listed i aims gone. absurd (let to = linked-target dp t k two.above two.next b.linked x has arc listed i aims in none-gone dp laws (k + 1) n two.next wide states i to.0 to.1 gone))
          states (state-of dp p (k + 1) (merged_layer dp (k + 1) (n + 1) two.next) kept (omega arith)) b.steps;
      above = nodes-redirected dp p k two.above redirects b.above;
      next = kept;
      steps = steps-redirected dp k two.above redirects b.steps;
    }

reduced-built : (dp : Dp) → IsLawful dp → IsChained dp → (t : Option ℤ) (p : List ℕ) (first w k : ℕ) (two : TwoLayers) → AreBuilt dp p t k two → k < dp.vars → 1 ≤ w → AreBuilt dp p t k (reduced dp first w (k + 1) two)
reduced-built dp laws chained t p first w k two b low some =
    elim (is_wide dp first w (k + 1) two.next) as (λ v. is_wide dp first w (k + 1) two.next ≡ v → AreBuilt dp p t k (cond v (merge_rest dp (k + 1) w two) two)) [
      | true ↦ λ e. (
          let test : nat_lt w (length two.next) ≡ true = (and_parts (is_reduced dp first (k + 1)) (nat_lt w (length two.next)) e).1 in
          let same : w - 1 + 1 ≡ w = omega arith in
          let wide : w - 1 + 1 < length two.next = grind arith in
          subst (λ n. AreBuilt dp p t k (merge_rest dp (k + 1) n two)) same (merged-built dp laws chained t p k (w - 1) two b low wide))
      | false ↦ λ e. b
    ] refl

pub built-well : (dp : Dp) → IsLawful dp → IsChained dp → (t : Option ℤ) (p : List ℕ) (first w k : ℕ) (layer : List DdNode) → AreNodes dp p k layer → k < dp.vars → length p ≤ k → 1 ≤ w → AreBuilt dp p t k (built dp first w t k layer)
built-well dp laws chained t p first w k layer h low deep some = reduced-built dp laws chained t p first w k (prune dp (k + 1) t (expand dp k layer)) (pruned-built dp laws chained t p k layer h low deep) low some

-- the next layer is no wider than the width where it is cut
pub built-narrow : (dp : Dp) (first w : ℕ) (t : Option ℤ) (k : ℕ) (layer : List DdNode) → 1 ≤ w → IsTrue (is_reduced dp first (k + 1)) → length (built dp first w t k layer).next ≤ w
built-narrow dp first w t k layer some cut =
    let two = prune dp (k + 1) t (expand dp k layer) in
    elim (nat_lt w (length two.next)) as (λ v. nat_lt w (length two.next) ≡ v → length (cond (is_reduced dp first (k + 1) && v) (merge_rest dp (k + 1) w two) two).next ≤ w) [
      | true ↦ λ e. rw cut (let long = length-append (take (w - 1) two.next) (merged_node dp (k + 1) (drop (w - 1) two.next) ∷ []) in let short = length-take-le (w - 1) two.next (grind arith) in omega arith)
      | false ↦ λ e. rw cut (grind arith)
    ] refl
