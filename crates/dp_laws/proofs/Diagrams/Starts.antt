-- Where a diagram starts, and at which depths it may be reduced.
use Rattle.std.proofs.Common.{◌≡◌, ℕ, zero, suc, ◌+◌, ◌-◌, ◌<◌, ◌≤◌, nat_lt, nat_le, ℤ, Bool, true, false, cond, List, [], ◌∷◌, length, map, take, find, slice_get, Option, Some, None, option_map, IsTrue, refl, sym, ◌∙◌, ap, subst, arith}
use Rattle.std.proofs.lemmas.Option.{slice_get-map}
use Rattle.dp_model.specs.Dp.{Dp}
use Rattle.dp_model.specs.Decisions.{below}
use Rattle.dp_model.specs.Prefixes.{state_of, value_of}
use Rattle.dp_model.specs.Reached.{Reached, reached}
use Rattle.std.proofs.lemmas.Bool.{and_parts}
use Rattle.dp_laws.specs.Restricted.Beam.{is_reduced, is_too_wide, layer_below, whole_layer}
use Rattle.dp_laws.specs.Restricted.Beams.{layers, wide}
use Rattle.dp_laws.specs.Diagrams.Nodes.{DdNode, DdLayers, prefix_at, as_member}
use Rattle.dp_laws.specs.Diagrams.Seen.{IsDiagram, exact_layers}
use Rattle.dp_laws.proofs.Diagrams.Places.{same-Some, below-at}
use Rattle.dp_laws.proofs.Diagrams.Walks.{layer-above}

-- what is found meets the test
pub found-tests : {X : Type 0} (test : X → Bool) (xs : List X) (x : X) → find test xs ≡ Some x → IsTrue (test x)
found-tests test [] x e = absurd (let none : None ≡ Some x = e in cc)
found-tests test (y ∷ ys) x e =
    elim (test y) as (λ b. test y ≡ b → cond b (Some y) (find test ys) ≡ Some x → IsTrue (test x)) [
      | true ↦ λ t h. subst (λ z. IsTrue (test z)) (same-Some y x h) t
      | false ↦ λ t h. found-tests test ys x h
    ] refl e

-- a depth that is reduced stands two below the first at least, and above the last
pub record IsReducible (dp : Dp) (first depth : ℕ) : Type 0 where
  pub below_first : first + 2 ≤ depth
  pub above_last : depth < dp.vars

cut-at : (dp : Dp) (first depth : ℕ) → IsTrue (is_reduced dp first depth) → IsReducible dp first depth
cut-at dp first depth h =
    let parts = and_parts (nat_le (first + 2) depth) (nat_lt depth dp.vars) h in
    let a : nat_le (first + 2) depth ≡ true = parts.0 in
    let b : nat_lt depth dp.vars ≡ true = parts.1 in
    record { below_first = grind arith; above_last = grind arith }

wide-at : (dp : Dp) (p : List ℕ) (w : ℕ) (t : Option ℤ) (m : ℕ) → IsTrue (is_too_wide dp (reached dp p) w t m) → IsReducible dp (length p) (length p + m)
wide-at dp p w t zero h = absurd (let clash : false ≡ true = h in cc)
wide-at dp p w t (suc m) h =
    let parts = and_parts (is_reduced dp (length p) (length p + m + 1)) (nat_lt w (length (whole_layer dp (length p + m) t (layer_below dp (reached dp p) w t m)))) h in
    let same : length p + m + 1 ≡ length p + suc m = omega arith in
    subst (λ n. IsReducible dp (length p) n) same (cut-at dp (length p) (length p + m + 1) parts.0)

wide-found : (dp : Dp) (p : List ℕ) (w : ℕ) (t : Option ℤ) (o : Option ℕ) (depth : ℕ) → find (is_too_wide dp (reached dp p) w t) (below (dp.vars - length p + 1)) ≡ o → option_map (λ m. length p + m) o ≡ Some depth → IsReducible dp (length p) depth
wide-found dp p w t None depth f e = absurd (let none : None ≡ Some depth = e in cc)
wide-found dp p w t (Some m) depth f e =
    subst (λ n. IsReducible dp (length p) n) (same-Some (length p + m) depth e)
    (wide-at dp p w t m (found-tests (is_too_wide dp (reached dp p) w t) (below (dp.vars - length p + 1)) m f))

-- where a diagram is first reduced
pub reducible : (dp : Dp) (p : List ℕ) (w : ℕ) (t : Option ℤ) (depth : ℕ) → wide dp p w t ≡ Some depth → IsReducible dp (length p) depth
reducible dp p w t depth e = wide-found dp p w t (find (is_too_wide dp (reached dp p) w t) (below (dp.vars - length p + 1))) depth refl e

-- the layer of the restricted diagram at a place
pub layers-at : (dp : Dp) (p : List ℕ) (w : ℕ) (t : Option ℤ) (m : ℕ) → m ≤ dp.vars - length p → slice_get (layers dp p w t) m ≡ Some (layer_below dp (reached dp p) w t m)
layers-at dp p w t m few =
    slice_get-map (layer_below dp (reached dp p) w t) (below (dp.vars - length p + 1)) m
    ∙ ap (option_map (layer_below dp (reached dp p) w t)) (below-at (dp.vars - length p + 1) m (omega arith))

-- a diagram starts with one node, which is the prefix
pub record StartsAt (dp : Dp) (p : List ℕ) (ds : List (List DdNode)) : Type 0 where
  pub root : DdNode
  pub more : List (List DdNode)
  pub are : ds ≡ (root ∷ []) ∷ more
  pub row : root.row ≡ state_of dp p
  pub value : root.value ≡ value_of dp p

pub as-member-is : (node : DdNode) (r : Reached) → as_member node ≡ Some r → prefix_at node ≡ r
as-member-is node r e =
    elim node.exact as (λ b. cond b (Some (prefix_at node)) None ≡ Some r → prefix_at node ≡ r) [ true ↦ λ h. same-Some (prefix_at node) r h | false ↦ λ h. absurd (let none : None ≡ Some r = h in cc) ] e

one-node : (dp : Dp) (p : List ℕ) (layer : List DdNode) (more : List (List DdNode)) → map as_member layer ≡ (Some (reached dp p) ∷ []) → StartsAt dp p (layer ∷ more)
one-node dp p [] more e = absurd (let long = ap length e in omega arith)
one-node dp p (node ∷ []) more e =
    let first : as_member node ≡ Some (reached dp p) = same-Some (as_member node) (Some (reached dp p)) (ap (λ l. slice_get l 0) e) in
    let is = as-member-is node (reached dp p) first in
    record { root = node; more = more; are = refl; row = ap (λ (r : Reached). r.row) is; value = ap (λ (r : Reached). r.value) is }
one-node dp p (node ∷ other ∷ rest) more e = absurd (let long = ap length e in omega arith)

start-of : (dp : Dp) (p : List ℕ) (w : ℕ) (t : Option ℤ) (ds : List (List DdNode)) (count : ℕ) → map (map as_member) (take count ds) ≡ map (map (λ r. Some r)) (take count (layers dp p w t)) → 0 < count → 0 < length ds → StartsAt dp p ds
start-of dp p w t [] count same some long = absurd (omega arith)
start-of dp p w t (layer ∷ more) count same some long =
    let at = layer-above count 0 (layer ∷ more) (layers dp p w t) same some layer refl in
    let rs : at.0 ≡ reached dp p ∷ [] = same-Some at.0 (reached dp p ∷ []) (sym at.1 ∙ layers-at dp p w t 0 (omega arith)) in
    one-node dp p layer more (at.2 ∙ ap (map (λ (r : Reached). Some r)) rs)

some-exact : (dp : Dp) (p : List ℕ) (w : ℕ) (t : Option ℤ) (o : Option ℕ) → o ≡ wide dp p w t → length p < dp.vars → 0 < exact_layers dp.vars (length p) o
some-exact dp p w t None e short = omega arith
some-exact dp p w t (Some depth) e short = let r = reducible dp p w t depth (sym e) in let low = r.below_first in omega arith

pub starts : (dp : Dp) (p : List ℕ) (w : ℕ) (t : Option ℤ) (d : DdLayers) → IsDiagram dp p w t d → length p < dp.vars → StartsAt dp p d.layers
starts dp p w t d h short =
    let long = h.depth in
    start-of dp p w t d.layers (exact_layers dp.vars (length p) d.first_reduced) h.above (some-exact dp p w t d.first_reduced h.first_reduced short) (omega arith)
