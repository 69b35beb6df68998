-- A relaxed diagram that is compiled by the rules is one as its readers show it.
use Rattle.std.proofs.Common.{◌≡◌, ℕ, zero, suc, ◌+◌, ◌-◌, ◌<◌, ◌≤◌, nat_le, nat_lt, ℤ, true, false, ◌&&◌, List, [], ◌∷◌, length, map, take, find, slice_get, Option, Some, None, option_map, unwrap_or, inl, inr, IsTrue, refl, sym, ◌∙◌, ap, subst, arith, add-zero}
use Rattle.std.proofs.lemmas.List.{take_all}
use Rattle.dp_model.specs.Dp.{Dp}
use Rattle.dp_model.specs.Decisions.{below}
use Rattle.dp_model.specs.Laws.{IsLawful, IsChained}
use Rattle.dp_model.specs.Prefixes.{IsPrefix}
use Rattle.dp_model.specs.Reached.{Reached, reached}
use Rattle.dp_model.proofs.Members.{Has}
use Rattle.dp_model.proofs.Paths.{state_of-state}
use Rattle.dp_laws.specs.Restricted.Beam.{layer_below, is_too_wide}
use Rattle.dp_laws.specs.Restricted.Beams.{layers, wide}
use Rattle.dp_laws.specs.Diagrams.Nodes.{DdNode, as_member}
use Rattle.dp_laws.specs.Diagrams.Seen.{IsReachedBy, AreLayers, exact_layers, IsDiagram, FallFrom}
use Rattle.dp_laws.proofs.Diagrams.Starts.{layers-at, reducible}
use Rattle.dp_laws.specs.Rules.Compiling.{built, compiled, first_reduced_below, with_suffixes, start_layer, relaxed}
use Rattle.dp_laws.proofs.Rules.Layers.{AreNodes}
use Rattle.dp_laws.proofs.Rules.Compiled.{IsNarrow, IsCompilation, compiles, are-layers}
use Rattle.dp_laws.proofs.Rules.Unreduced.{StandFor}
use Rattle.dp_laws.proofs.Rules.Relaxed.{NoneTooWide, reduced-first, IsAbove, StandsAt, stands-at, front-same, last-falls}

-- The first layer.

start-nodes : (dp : Dp) → IsLawful dp → (p : List ℕ) → IsPrefix dp p → AreNodes dp p (length p) (start_layer (reached dp p))
start-nodes dp laws p h = record {
  states = λ x has. elim has as (λ _. IsTrue (dp.is_state (length p) x.row)) [ inl e ↦ subst (λ (y : DdNode). IsTrue (dp.is_state (length p) y.row)) e (state_of-state dp laws.states p h).test | inr none ↦ absurd none ];
  reached = λ x has exact. elim has as (λ _. IsReachedBy dp p (length p) x) [
    | inl e ↦ subst (IsReachedBy dp p (length p)) e (record { prefix = h; depth = refl; begins = take_all (length p) p (omega arith); row = refl; value = refl })
    | inr none ↦ absurd none
  ];
  differ = (tt, tt);
}

start-narrow : (dp : Dp) (p : List ℕ) (w : ℕ) → IsNarrow dp p w (length p) (start_layer (reached dp p))
start-narrow dp p w cut =
    let high : nat_le (length p + 2) (length p) ≡ false = grind arith in
    absurd (let clash : (false && nat_lt (length p) dp.vars) ≡ true = subst (λ b. (b && nat_lt (length p) dp.vars) ≡ true) high cut in let wrong : false ≡ true = clash in cc)

start-bare : (dp : Dp) (p : List ℕ) (x : DdNode) → Has x (start_layer (reached dp p)) → x.arcs ≡ []
start-bare dp p x (inl e) = ap (λ (n : DdNode). n.arcs) (sym e)
start-bare dp p x (inr none) = absurd none

none-at-start : (dp : Dp) (p : List ℕ) (w : ℕ) (t : Option ℤ) → NoneTooWide dp p w t 0
none-at-start dp p w t zero less = refl
none-at-start dp p w t (suc i) less = absurd (omega arith)

-- Lengths.

length-ended : (dp : Dp) (k : ℕ) (ds : List (List DdNode)) → length (with_suffixes dp k ds) ≡ length ds
length-ended dp k [] = refl
length-ended dp k (layer ∷ rest) = ap suc (length-ended dp (k + 1) rest)

length-compiled : (dp : Dp) (first w : ℕ) (t : Option ℤ) (k m : ℕ) (layer : List DdNode) → length (compiled dp first w t k m layer) ≡ m + 1
length-compiled dp first w t k zero layer = refl
length-compiled dp first w t k (suc m) layer = (let rest = length-compiled dp first w t (k + 1) m (built dp first w t k layer).next in omega arith)

-- The parts of a diagram as seen.

module _ (dp : Dp) (laws : IsLawful dp) (chained : IsChained dp) (p : List ℕ) (w : ℕ) (t : Option ℤ) (h : IsPrefix dp p) (short : length p < dp.vars) (some : 1 ≤ w) where
  abbrev start : List DdNode
  start = start_layer (reached dp p)

  abbrev depth_left : ℕ
  depth_left = dp.vars - length p

  whole : length p + depth_left ≡ dp.vars
  whole = omega arith

  -- at the root nothing is left out of the sum
  at_root : length p + 0 ≡ length p
  at_root = add-zero (length p)

  shape : IsCompilation dp p w t (length p) depth_left start
  shape = compiles dp laws chained t p w (length p) depth_left start (start-nodes dp laws p h) (start-narrow dp p w) (start-bare dp p) whole (omega arith) some

  long : length (compiled dp (length p) w t (length p) depth_left start) ≡ depth_left + 1
  long = length-compiled dp (length p) w t (length p) depth_left start

  depth : length (relaxed dp (reached dp p) w t).layers ≡ dp.vars - length p + 1
  depth = length-ended dp (length p) (compiled dp (length p) w t (length p) depth_left start) ∙ long

  layer : AreLayers dp p w t (length p) (relaxed dp (reached dp p) w t).layers
  layer =
      let s = shape in
      let count : length (s.head ∷ s.rest) ≡ depth_left + 1 = ap length (sym s.is) ∙ long in
      let all = are-layers dp p w t (length p) (s.head ∷ s.rest) s.all (omega arith) (let sum = whole in omega arith) in
      subst (λ ds. AreLayers dp p w t (length p) (with_suffixes dp (length p) ds)) (sym s.is) all

  stand-at-root : StandFor start (layer_below dp (reached dp p) w t 0)
  stand-at-root = refl

  first-reduced : (relaxed dp (reached dp p) w t).first_reduced ≡ wide dp p w t
  first-reduced =
      let e = reduced-first dp p w t depth_left 0 start stand-at-root (none-at-start dp p w t) in
      let base : first_reduced_below dp (length p) w t (length p) depth_left start ≡ option_map (λ j. length p + j) (find (is_too_wide dp (reached dp p) w t) (below (0 + depth_left + 1))) =
      subst (λ k. first_reduced_below dp (length p) w t k depth_left start ≡ option_map (λ j. length p + j) (find (is_too_wide dp (reached dp p) w t) (below (0 + depth_left + 1)))) at_root e in
      let sum : 0 + depth_left + 1 ≡ dp.vars - length p + 1 = omega arith in
      base ∙ ap (λ n. option_map (λ j. length p + j) (find (is_too_wide dp (reached dp p) w t) (below n))) sum

  stands : (i : ℕ) → i ≤ depth_left → IsAbove (length p + i) (first_reduced_below dp (length p) w t (length p) depth_left start) → StandsAt dp p w t (relaxed dp (reached dp p) w t).layers i i
  stands i few above =
      let plain : length p + i ≡ length p + 0 + i = omega arith in
      let shown : IsAbove (length p + 0 + i) (first_reduced_below dp (length p) w t (length p + 0) depth_left start) =
      subst (λ k. IsAbove (length p + 0 + i) (first_reduced_below dp (length p) w t k depth_left start)) (sym at_root) (subst (λ n. IsAbove n (first_reduced_below dp (length p) w t (length p) depth_left start)) plain above) in
      let s = stands-at dp p w t depth_left 0 i start stand-at-root few shown in
      let zero_i : 0 + i ≡ i = omega arith in
      subst (λ k. StandsAt dp p w t (with_suffixes dp k (compiled dp (length p) w t k depth_left start)) i i) at_root
      (subst (λ n. StandsAt dp p w t (with_suffixes dp (length p + 0) (compiled dp (length p) w t (length p + 0) depth_left start)) i n) zero_i s)

  -- a place in front of the first reduced layer
  in-front : (o : Option ℕ) (i : ℕ) → i < exact_layers dp.vars (length p) o → IsAbove (length p + i) o
  in-front None i less = tt
  in-front (Some first) i less = omega arith

  few-at : (o : Option ℕ) (i : ℕ) → o ≡ wide dp p w t → i < exact_layers dp.vars (length p) o → i ≤ depth_left
  few-at None i e less = omega arith
  few-at (Some first) i e less = (let r = reducible dp p w t first (sym e) in let low = r.above_last in omega arith)

  above : map (map as_member) (take (exact_layers dp.vars (length p) (relaxed dp (reached dp p) w t).first_reduced) (relaxed dp (reached dp p) w t).layers)
      ≡ map (map (λ (r : Reached). Some r)) (take (exact_layers dp.vars (length p) (relaxed dp (reached dp p) w t).first_reduced) (layers dp p w t))
  above =
      let first = (relaxed dp (reached dp p) w t).first_reduced in
      front-same (map as_member) (map (λ (r : Reached). Some r)) (exact_layers dp.vars (length p) first) (relaxed dp (reached dp p) w t).layers (layers dp p w t) (λ i less.
      let few = few-at first i first-reduced less in
      let s = stands i few (in-front first i less) in
      (s.layer, layer_below dp (reached dp p) w t i, s.at, layers-at dp p w t i few, s.stands))

  order : FallFrom (unwrap_or (slice_get (relaxed dp (reached dp p) w t).layers (dp.vars - length p)) [])
  order =
      let l = last-falls dp (length p) w t (length p) depth_left start whole (λ last. absurd (omega arith)) in
      subst (λ (o : Option (List DdNode)). FallFrom (unwrap_or o [])) (sym l.at) l.falls

  pub compiled-is-diagram : IsDiagram dp p w t (relaxed dp (reached dp p) w t)
  compiled-is-diagram = record { first = refl; depth = depth; layer = layer; first_reduced = first-reduced; above = above; order = order }
