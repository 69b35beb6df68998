-- The nodes of a layer are taken, one after another.
use Rattle.std.proofs.Common.{◌≡◌, ℕ, ◌+◌, ◌-◌, ◌<◌, ◌≤◌, ℤ, Bool, true, List, [], ◌∷◌, ◌++◌, length, map, drop, slice_get, Option, Some, None, option_map, option_and_then, unwrap_or, refl, sym, ◌∙◌, ap, subst, arith, append_assoc, length-append}
use Rattle.std.specs.List.{cons_option}
use Rattle.dp_model.specs.Dp.{Dp}
use Rattle.dp_laws.specs.Diagrams.Nodes.{DdNode, DdLayers, node_at}
use Rattle.dp_laws.specs.Diagrams.Cutsets.{ChildAt, bound_of, places_where, child_from}
use Rattle.relaxed_dd.specs.Shown.{layer_in, last_of}
use Rattle.exact_cutset.specs.Seen.{ChildrenView}
use Rattle.exact_cutset.specs.Ready.{bound_at, with_bounded}
use Rattle.exact_cutset.proofs.Kept.{map-last}
use Rattle.exact_cutset.proofs.Searched.{drop-at, there}

-- the nodes of the layer at the depth, from the place i on
abbrev pub places_from : Dp → DdLayers → ℕ → ℕ → List ChildAt
places_from dp d depth i = places_where (λ node. true) dp depth i (drop i (layer_in d depth))

-- the first i nodes were offered
pub record IsTakenTo (dp : Dp) (d : DdLayers) (depth i : ℕ) (start s : ChildrenView) : Type 0 where
  pub rest : s ≡ record start { places = s.places; subs = s.subs }
  pub places : s.places ++ places_from dp d depth i ≡ places_from dp d depth 0
  pub subs : s.subs ≡ map (child_from d) s.places
  pub few : length s.places ≤ i

-- the child of a bound
abbrev child_for : ℕ → ℕ → Option ℤ → Option ChildAt
child_for depth i o = option_map (λ bound. record { depth = depth; place = i; bound = bound }) o

-- what is left from a node on
left-from : (dp : Dp) (d : DdLayers) (depth i : ℕ) (x : DdNode) → slice_get (layer_in d depth) i ≡ Some x → places_from dp d depth i ≡ cons_option (child_for depth i (bound_of dp depth x)) (places_from dp d depth (i + 1))
left-from dp d depth i x at = ap (places_where (λ node. true) dp depth i) (drop-at (layer_in d depth) i x at)

-- it stands at the place
at-layer : (o : Option (List DdNode)) (i : ℕ) → option_and_then (λ (l : List DdNode). slice_get l i) o ≡ slice_get (unwrap_or o []) i
at-layer None i = refl
at-layer (Some l) i = refl

pub node-here : (d : DdLayers) (depth i : ℕ) → node_at d depth i ≡ slice_get (layer_in d depth) i
node-here d depth i = at-layer (slice_get d.layers (depth - d.first)) i

takes-one : (dp : Dp) (d : DdLayers) (depth i : ℕ) (start s : ChildrenView) (o : Option ℤ) → places_from dp d depth i ≡ cons_option (child_for depth i o) (places_from dp d depth (i + 1)) → IsTakenTo dp d depth i start s → IsTakenTo dp d depth (i + 1) start (with_bounded d depth i o s)
takes-one dp d depth i start s None left h = record { rest = h.rest; places = ap (λ ps. s.places ++ ps) (sym left) ∙ h.places; subs = h.subs; few = (let f = h.few in omega arith) }
takes-one dp d depth i start s (Some bound) left h =
    let c : ChildAt = record { depth = depth; place = i; bound = bound } in
    record {
      rest = ap (λ (v : ChildrenView). record v { places = s.places ++ c ∷ []; subs = s.subs ++ child_from d c ∷ [] }) h.rest;
      places = append_assoc s.places (c ∷ []) (places_from dp d depth (i + 1)) ∙ (ap (λ ps. s.places ++ ps) (sym left) ∙ h.places);
      subs = ap (λ ss. ss ++ child_from d c ∷ []) h.subs ∙ sym (map-last (child_from d) s.places c);
      few = (let f = h.few in let l = length-append s.places (c ∷ []) in omega arith);
    }

pub takes-further : (dp : Dp) (d : DdLayers) (depth i : ℕ) (start s new : ChildrenView) → i < length (layer_in d depth) → IsTakenTo dp d depth i start s → new ≡ with_bounded d depth i (bound_at dp d depth i) s → IsTakenTo dp d depth (i + 1) start new
takes-further dp d depth i start s new less h n =
    let x = there (layer_in d depth) i less in
    let at : node_at d depth i ≡ Some x.0 = node-here d depth i ∙ x.1 in
    let is : bound_at dp d depth i ≡ bound_of dp depth x.0 = ap (option_and_then (λ (m : DdNode). bound_of dp depth m)) at in
    subst (IsTakenTo dp d depth (i + 1) start) (sym n) (takes-one dp d depth i start s (bound_at dp d depth i) (left-from dp d depth i x.0 x.1 ∙ ap (λ (o : Option ℤ). cons_option (child_for depth i o) (places_from dp d depth (i + 1))) (sym is)) h)

-- whether a node of the last layer is exact
pub exact-here : (d : DdLayers) (depth i : ℕ) (r b : Bool) → depth ≡ last_of d → option_map (λ (n : DdNode). n.exact) (node_at d depth i) ≡ Some r → r ≡ b → option_map (λ (n : DdNode). n.exact) (slice_get (layer_in d (last_of d)) i) ≡ Some b
exact-here d depth i r b last e is =
    ap (λ k. option_map (λ (n : DdNode). n.exact) (slice_get (layer_in d k) i)) (sym last) ∙ (ap (option_map (λ (n : DdNode). n.exact)) (sym (node-here d depth i)) ∙ (e ∙ ap Some is))
