-- The exact nodes of a compiled diagram stand in the reduction order, and none of them is struck.
use Rattle.std.proofs.Common.{◌≡◌, ℕ, zero, suc, ◌+◌, ◌-◌, ◌<◌, ◌≤◌, ℤ, Bool, true, false, cond, ◌||◌, List, [], ◌∷◌, ◌++◌, length, map, take, drop, slice_get, Option, Some, None, option_map, is_some, unwrap_or, ◌⊎◌, inl, inr, IsTrue, refl, sym, ◌∙◌, ap, subst, arith, add-zero}
use Rattle.std.specs.List.{cons_option}
use Rattle.dp_model.specs.Dp.{Dp}
use Rattle.dp_model.specs.Gaps.{is_struck_by}
use Rattle.dp_model.specs.Laws.{IsLawful, IsChained}
use Rattle.dp_model.specs.Lists.{Each}
use Rattle.dp_model.specs.Prefixes.{IsPrefix}
use Rattle.dp_model.specs.Reached.{Reached, reached}
use Rattle.dp_model.specs.Subproblem.{Subproblem}
use Rattle.dp_model.specs.declared.cut_kind.CutKind.{CutKind}
use Rattle.dp_model.specs.declared.cut_kind.CutKind.TheVariants.{LastExactLayer, Frontier}
use Rattle.dp_model.proofs.Members.{Has, each-has, each-of-all, Each-append, Each-map}
use Rattle.dp_laws.specs.Pairs.{EachTwo}
use Rattle.dp_laws.specs.Restricted.ReductionOrder.{stands_before}
use Rattle.dp_laws.specs.Restricted.Beam.{expanded}
use Rattle.dp_laws.specs.Diagrams.Nodes.{DdNode, DdLayers, prefix_at}
use Rattle.dp_laws.specs.Diagrams.Seen.{IsReachedBy, IsDiagram, suffix_from}
use Rattle.dp_laws.specs.Diagrams.Cutsets.{ChildAt, bound_of, places_where, last_exact_at, is_border, all_borders_at, passes, outermost, with_bound, child_from, path_at, children_at, children_of}
use Rattle.dp_laws.specs.Diagrams.Placed.{IsChildPlaced}
use Rattle.dp_laws.specs.Rules.Redirects.{Redirect, with_redirected}
use Rattle.dp_laws.specs.Rules.Expanding.{node_for, new_layer, with_arcs}
use Rattle.dp_laws.specs.Rules.Pruning.{Leader, at_leader, is_struck, leaders_past, pruned_nodes, prune_redirects}
use Rattle.dp_laws.specs.Rules.Reducing.{merged_node, merged_layer, merge_redirects}
use Rattle.dp_laws.specs.Rules.Compiling.{expand, prune, merge_rest, is_wide, built, compiled, with_suffixes, start_layer, relaxed, first_of_layers}
use Rattle.dp_laws.specs.Rules.Ranked.{ComesFirst, ChildrenStand, ExactAreUnstruck}
use Rattle.dp_laws.proofs.Lists.{each-take, two-take}
use Rattle.dp_laws.proofs.Restricted.InOrder.{layer-ordered}
use Rattle.dp_laws.proofs.Restricted.Permutations.{two-map}
use Rattle.dp_laws.proofs.Diagrams.Places.{same-Some, Has-at}
use Rattle.dp_laws.proofs.Diagrams.Walks.{keeps-at}
use Rattle.dp_laws.proofs.Diagrams.Placed.{in-places, in-borders-at, placed}
use Rattle.dp_laws.proofs.Diagrams.Fits.{layer-of}
use Rattle.dp_laws.proofs.Rules.Diagrams.{compiled-is-diagram}
use Rattle.dp_laws.proofs.Rules.Expanded.{with_arcs_of}
use Rattle.dp_laws.proofs.Rules.Layers.{LooksSame}
use Rattle.dp_laws.proofs.Rules.Pruned.{pruned-two}
use Rattle.dp_laws.proofs.Rules.Redirecting.{followed_node}

-- two exact nodes stand in the reduction order
abbrev Ranked : Dp → ℕ → DdNode → DdNode → Type 0
Ranked dp k a b = IsTrue a.exact → IsTrue b.exact → IsTrue (stands_before dp k (prefix_at a) (prefix_at b))

abbrev Unstruck : Dp → Option ℤ → ℕ → DdNode → Type 0
Unstruck dp t k node = IsTrue node.exact → is_struck dp k t node ≡ false

pub record AreRanked (dp : Dp) (t : Option ℤ) (k : ℕ) (layer : List DdNode) : Type 0 where
  pub order : EachTwo (Ranked dp k) layer
  pub unstruck : Each (Unstruck dp t k) layer

-- Nodes that look the same.

prefix-same : (x y : DdNode) → LooksSame x y → prefix_at x ≡ prefix_at y
prefix-same x y h = rw (h.row, h.value, h.path) refl

each-mapped : {X : Type 0} (P : X → Type 0) (f : X → X) → ((x : X) → P x → P (f x)) → (xs : List X) → Each P xs → Each P (map f xs)
each-mapped P f keeps [] h = tt
each-mapped P f keeps (x ∷ xs) h = (keeps x h.0, each-mapped P f keeps xs h.1)

ranked-same : (dp : Dp) (k : ℕ) (a b x y : DdNode) → LooksSame x a → LooksSame y b → Ranked dp k a b → Ranked dp k x y
ranked-same dp k a b x y ha hb h ex ey =
    let before = h (sym ha.exact ∙ ex) (sym hb.exact ∙ ey) in
    subst (λ r. IsTrue (stands_before dp k r (prefix_at y))) (sym (prefix-same x a ha)) (subst (λ r. IsTrue (stands_before dp k (prefix_at a) r)) (sym (prefix-same y b hb)) before)

unstruck-same : (dp : Dp) (t : Option ℤ) (k : ℕ) (a x : DdNode) → LooksSame x a → Unstruck dp t k a → Unstruck dp t k x
unstruck-same dp t k a x ha h ex =
    subst (λ r. is_struck_by r.value (dp.rough k r.row) t ≡ false) (sym (prefix-same x a ha)) (h (sym ha.exact ∙ ex))

module _ (dp : Dp) (t : Option ℤ) (k : ℕ) (f : DdNode → DdNode) (keeps : (x : DdNode) → LooksSame (f x) x) where
  after-mapped : (a : DdNode) (xs : List DdNode) → Each (Ranked dp k a) xs → Each (Ranked dp k (f a)) (map f xs)
  after-mapped a [] h = tt
  after-mapped a (x ∷ xs) h = (ranked-same dp k a x (f a) (f x) (keeps a) (keeps x) h.0, after-mapped a xs h.1)

  two-mapped : (xs : List DdNode) → EachTwo (Ranked dp k) xs → EachTwo (Ranked dp k) (map f xs)
  two-mapped [] h = tt
  two-mapped (x ∷ xs) h = (after-mapped x xs h.0, two-mapped xs h.1)

  ranked-mapped : (layer : List DdNode) → AreRanked dp t k layer → AreRanked dp t k (map f layer)
  ranked-mapped layer h = record {
    order = two-mapped layer h.order;
    unstruck = each-mapped (Unstruck dp t k) f (λ x u. unstruck-same dp t k x (f x) (keeps x) u) layer h.unstruck;
  }

-- The next layer.

new-order : (dp : Dp) (k : ℕ) (layer : List DdNode) → EachTwo (Ranked dp (k + 1)) (new_layer dp k layer)
new-order dp k layer =
    let rs = expanded dp k (map prefix_at layer) in
    two-map (node_for dp k layer) (Ranked dp (k + 1)) rs (two-weaker rs (layer-ordered dp k (map prefix_at layer))) where
      weaker-after : (a : Reached) (rs : List Reached) → Each (λ b. IsTrue (stands_before dp (k + 1) a b)) rs → Each (λ b. Ranked dp (k + 1) (node_for dp k layer a) (node_for dp k layer b)) rs
      weaker-after a [] h = tt
      weaker-after a (b ∷ rs) h = ((λ ea eb. h.0), weaker-after a rs h.1)

      two-weaker : (rs : List Reached) → EachTwo (λ a b. IsTrue (stands_before dp (k + 1) a b)) rs → EachTwo (λ a b. Ranked dp (k + 1) (node_for dp k layer a) (node_for dp k layer b)) rs
      two-weaker [] h = tt
      two-weaker (r ∷ rs) h = (weaker-after r rs h.0, two-weaker rs h.1)

pruned-unstruck : (dp : Dp) (k : ℕ) (t : Option ℤ) (leaders : List Leader) (place : ℕ) (nodes : List DdNode) → Each (Unstruck dp t k) (pruned_nodes dp k t leaders place nodes)
pruned-unstruck dp k t leaders place [] = tt
pruned-unstruck dp k t leaders place (node ∷ nodes) =
    let gone = pruned-unstruck dp k t leaders place nodes in
    let more = pruned-unstruck dp k t (leaders_past leaders place node) (place + 1) nodes in
    elim (is_struck dp k t node) as (λ b. is_struck dp k t node ≡ b
    → Each (Unstruck dp t k) (cond (b || is_some (at_leader dp k leaders node)) (pruned_nodes dp k t leaders place nodes) (node ∷ pruned_nodes dp k t (leaders_past leaders place node) (place + 1) nodes))) [
      | true ↦ λ e. gone
      | false ↦ λ e. elim (is_some (at_leader dp k leaders node)) as
          (λ b. Each (Unstruck dp t k) (cond b (pruned_nodes dp k t leaders place nodes) (node ∷ pruned_nodes dp k t (leaders_past leaders place node) (place + 1) nodes))) [ true ↦ gone | false ↦ ((λ _. e), more) ]
    ] refl

pruned-ranked : (dp : Dp) (t : Option ℤ) (k : ℕ) (layer : List DdNode) → AreRanked dp t (k + 1) (prune dp (k + 1) t (expand dp k layer)).next
pruned-ranked dp t k layer = record {
  order = pruned-two (Ranked dp (k + 1)) dp (k + 1) t [] 0 (new_layer dp k layer) (new-order dp k layer);
  unstruck = pruned-unstruck dp (k + 1) t [] 0 (new_layer dp k layer);
}

each-last : (R : DdNode → Type 0) (xs : List DdNode) (x : DdNode) → Each R xs → R x → Each R (xs ++ x ∷ [])
each-last R [] x h k = (k, tt)
each-last R (y ∷ xs) x h k = (h.0, each-last R xs x h.1 k)

two-last : (R : DdNode → DdNode → Type 0) (xs : List DdNode) (x : DdNode) → EachTwo R xs → ((y : DdNode) → R y x) → EachTwo R (xs ++ x ∷ [])
two-last R [] x h k = (tt, tt)
two-last R (y ∷ xs) x h k = (each-last (R y) xs x h.0 (k y), two-last R xs x h.1 k)

merged-ranked : (dp : Dp) (t : Option ℤ) (k w : ℕ) (layer : List DdNode) → AreRanked dp t k layer → AreRanked dp t k (merged_layer dp k w layer)
merged-ranked dp t k w layer h =
    let one = merged_node dp k (drop (w - 1) layer) in
    record {
      order = two-last (Ranked dp k) (take (w - 1) layer) one (two-take (Ranked dp k) (w - 1) layer h.order) (λ y ey eo. absurd (let clash : false ≡ true = eo in cc));
      unstruck = each-last (Unstruck dp t k) (take (w - 1) layer) one (each-take (Unstruck dp t k) (w - 1) layer h.unstruck) (λ eo. absurd (let clash : false ≡ true = eo in cc));
    }

next-ranked : (dp : Dp) (first w : ℕ) (t : Option ℤ) (k : ℕ) (layer : List DdNode) → AreRanked dp t (k + 1) (built dp first w t k layer).next
next-ranked dp first w t k layer =
    let two = prune dp (k + 1) t (expand dp k layer) in
    elim (is_wide dp first w (k + 1) two.next) as (λ b. AreRanked dp t (k + 1) (cond b (merge_rest dp (k + 1) w two) two).next) [
      | true ↦ merged-ranked dp t (k + 1) w two.next (pruned-ranked dp t k layer)
      | false ↦ pruned-ranked dp t k layer
    ]

-- The layer above keeps its nodes.

redirected-ranked : (dp : Dp) (t : Option ℤ) (k : ℕ) (redirects : List (Option Redirect)) (layer : List DdNode) → AreRanked dp t k layer → AreRanked dp t k (with_redirected redirects layer)
redirected-ranked dp t k redirects layer h = ranked-mapped dp t k (followed_node redirects) (λ x. record { row = refl; value = refl; exact = refl; path = refl }) layer h

above-ranked : (dp : Dp) (first w : ℕ) (t : Option ℤ) (k : ℕ) (layer : List DdNode) → AreRanked dp t k layer → AreRanked dp t k (built dp first w t k layer).above
above-ranked dp first w t k layer h =
    let two = prune dp (k + 1) t (expand dp k layer) in
    let arcs = ranked-mapped dp t k (with_arcs_of dp k (new_layer dp k layer)) (λ x. record { row = refl; value = refl; exact = refl; path = refl }) layer h in
    let pruned = redirected-ranked dp t k (prune_redirects dp (k + 1) t [] 0 (new_layer dp k layer)) (with_arcs dp k (new_layer dp k layer) layer) arcs in
    elim (is_wide dp first w (k + 1) two.next) as (λ b. AreRanked dp t k (cond b (merge_rest dp (k + 1) w two) two).above) [
      | true ↦ redirected-ranked dp t k (merge_redirects dp (k + 1) w two.next) two.above pruned
      | false ↦ pruned
    ]

-- All layers below a ranked one, and below any one.

all-ranked : (dp : Dp) (first w : ℕ) (t : Option ℤ) (k m : ℕ) (layer : List DdNode) → AreRanked dp t k layer → (i : ℕ) (l : List DdNode) → slice_get (compiled dp first w t k m layer) i ≡ Some l → AreRanked dp t (k + i) l
all-ranked dp first w t k zero layer h zero l e = subst (AreRanked dp t (k + 0)) (same-Some layer l e) (subst (λ n. AreRanked dp t n layer) (sym (add-zero k)) h)
all-ranked dp first w t k zero layer h (suc i) l e = absurd (let none : None ≡ Some l = e in cc)
all-ranked dp first w t k (suc m) layer h zero l e =
    let two = built dp first w t k layer in
    subst (AreRanked dp t (k + 0)) (same-Some two.above l e) (subst (λ n. AreRanked dp t n two.above) (sym (add-zero k)) (above-ranked dp first w t k layer h))
all-ranked dp first w t k (suc m) layer h (suc i) l e =
    let same : k + 1 + i ≡ k + suc i = omega arith in
    subst (λ n. AreRanked dp t n l) same (all-ranked dp first w t (k + 1) m (built dp first w t k layer).next (next-ranked dp first w t k layer) i l e)

below-ranked : (dp : Dp) (first w : ℕ) (t : Option ℤ) (k m : ℕ) (layer : List DdNode) (i : ℕ) (l : List DdNode) → slice_get (compiled dp first w t k m layer) (suc i) ≡ Some l → AreRanked dp t (k + suc i) l
below-ranked dp first w t k zero layer i l e = absurd (let none : None ≡ Some l = e in cc)
below-ranked dp first w t k (suc m) layer i l e =
    let same : k + 1 + i ≡ k + suc i = omega arith in
    subst (λ n. AreRanked dp t n l) same (all-ranked dp first w t (k + 1) m (built dp first w t k layer).next (next-ranked dp first w t k layer) i l e)

suffixed-ranked : (dp : Dp) (t : Option ℤ) (j k i : ℕ) (ls : List (List DdNode)) (l : List DdNode) → ((l : List DdNode) → slice_get ls i ≡ Some l → AreRanked dp t j l) → slice_get (with_suffixes dp k ls) i ≡ Some l → AreRanked dp t j l
suffixed-ranked dp t j k i [] l h e = absurd (let none : None ≡ Some l = e in cc)
suffixed-ranked dp t j k zero (layer ∷ ls) l h e =
    let f : DdNode → DdNode = λ (node : DdNode). record node { suffix = suffix_from dp k (first_of_layers (with_suffixes dp (k + 1) ls)) node.arcs } in
    subst (AreRanked dp t j) (same-Some (map f layer) l e) (ranked-mapped dp t j f (λ x. record { row = refl; value = refl; exact = refl; path = refl }) layer (h layer refl))
suffixed-ranked dp t j k (suc i) (layer ∷ ls) l h e = suffixed-ranked dp t j (k + 1) i ls l h e

pub relaxed-ranked : (dp : Dp) (p : List ℕ) (w : ℕ) (t : Option ℤ) (m : ℕ) (layer : List DdNode) → slice_get (relaxed dp (reached dp p) w t).layers (suc m) ≡ Some layer → AreRanked dp t (length p + suc m) layer
relaxed-ranked dp p w t m layer e =
    suffixed-ranked dp t (length p + suc m) (length p) (suc m) (compiled dp (length p) w t (length p) (dp.vars - length p) (start_layer (reached dp p))) layer
    (λ l at. below-ranked dp (length p) w t (length p) (dp.vars - length p) (start_layer (reached dp p)) m l at) e

pub exact-unstruck : (dp : Dp) → ExactAreUnstruck dp
exact-unstruck dp p w t m layer e = (relaxed-ranked dp p w t m layer e).unstruck

-- The children by their places.

-- at a lesser depth, or earlier in the same layer
abbrev IsBefore : ChildAt → ChildAt → Type 0
IsBefore a b = (a.depth < b.depth) ⊎ ((a.depth ≡ b.depth) × (a.place < b.place))

two-given : {X : Type 0} (R S : X → X → Type 0) (xs : List X) → EachTwo R xs → ((x y : X) → Has x xs → Has y xs → R x y → S x y) → EachTwo S xs
two-given R S [] h k = tt
two-given R S (x ∷ xs) h k = (each-of-all (S x) xs (λ y has. k x y (inl refl) (inr has) (each-has (R x) xs y h.0 has)), two-given R S xs h.1 (λ a b ha hb. k a b (inr ha) (inr hb)))

places-before : (test : DdNode → Bool) (dp : Dp) (k i : ℕ) (nodes : List DdNode) → EachTwo IsBefore (places_where test dp k i nodes)
places-before test dp k i [] = tt
places-before test dp k i (node ∷ nodes) =
    let rest = places_where test dp k (i + 1) nodes in
    let later = places-before test dp k (i + 1) nodes in
    let with : (bound : ℤ) → EachTwo IsBefore (record { depth = k; place = i; bound = bound } ∷ rest) = λ bound.
    (each-of-all (IsBefore (record { depth = k; place = i; bound = bound })) rest (λ c has. (let a = in-places test dp k (i + 1) nodes c has in let depth = a.depth in let place = a.place in inr (sym a.depth, omega arith))), later) in
    elim (test node) as (λ b. EachTwo IsBefore (cons_option (cond b (option_map (λ bound. record { depth = k; place = i; bound = bound }) (bound_of dp k node)) None) rest)) [
      | true ↦ elim (bound_of dp k node) as (λ o. EachTwo IsBefore (cons_option (option_map (λ bound. record { depth = k; place = i; bound = bound }) o) rest)) [ None ↦ later | Some bound ↦ with bound ]
      | false ↦ later
    ]

two-append : {X : Type 0} (R : X → X → Type 0) (xs ys : List X) → EachTwo R xs → EachTwo R ys → ((x y : X) → Has x xs → Has y ys → R x y) → EachTwo R (xs ++ ys)
two-append R [] ys h k across = k
two-append R (x ∷ xs) ys h k across =
    (Each-append (R x) xs ys h.0 (each-of-all (R x) ys (λ y has. across x y (inl refl) has)), two-append R xs ys h.1 k (λ a b ha hb. across a b (inr ha) hb))

borders-before : (dp : Dp) (k : ℕ) (ls : List (List DdNode)) → EachTwo IsBefore (all_borders_at dp k ls)
borders-before dp k [] = tt
borders-before dp k (layer ∷ []) = tt
borders-before dp k (layer ∷ next ∷ rest) =
    two-append IsBefore (places_where (is_border next) dp k 0 layer) (all_borders_at dp (k + 1) (next ∷ rest)) (places-before (is_border next) dp k 0 layer) (borders-before dp (k + 1) (next ∷ rest)) (λ a b ha hb.
    let x = (in-places (is_border next) dp k 0 layer a ha).depth in
    let y = (in-borders-at dp (k + 1) (next ∷ rest) b hb).depth in
    inl (omega arith))

each-left : {X : Type 0} (P : X → Type 0) (path : X → List ℕ) (kept xs : List X) → Each P xs → Each P (outermost path kept xs)
each-left P path kept [] h = tt
each-left P path kept (x ∷ xs) h =
    elim (passes path kept (path x)) as (λ b. Each P (cond b (outermost path kept xs) (x ∷ outermost path (x ∷ kept) xs))) [ true ↦ each-left P path kept xs h.1 | false ↦ (h.0, each-left P path (x ∷ kept) xs h.1) ]

two-left : {X : Type 0} (R : X → X → Type 0) (path : X → List ℕ) (kept xs : List X) → EachTwo R xs → EachTwo R (outermost path kept xs)
two-left R path kept [] h = tt
two-left R path kept (x ∷ xs) h =
    elim (passes path kept (path x)) as (λ b. EachTwo R (cond b (outermost path kept xs) (x ∷ outermost path (x ∷ kept) xs))) [
      | true ↦ two-left R path kept xs h.1
      | false ↦ (each-left (R x) path (x ∷ kept) xs h.0, two-left R path (x ∷ kept) xs h.1)
    ]

last-before : (dp : Dp) (d : DdLayers) (o : Option ℕ) → EachTwo IsBefore (last_exact_at dp d o)
last-before dp d None = tt
last-before dp d (Some depth) = places-before (λ node. true) dp (depth - 1) 0 (unwrap_or (slice_get d.layers (depth - 1 - d.first)) [])

children-before : (dp : Dp) (d : DdLayers) (kind : CutKind) → EachTwo IsBefore (children_at dp d kind)
children-before dp d LastExactLayer = last-before dp d d.first_reduced
children-before dp d Frontier = two-left IsBefore (path_at d) [] (all_borders_at dp (d.first + 1) (drop 1 d.layers)) (borders-before dp (d.first + 1) (drop 1 d.layers))

-- And by their nodes.

each-at : {X : Type 0} (P : X → Type 0) (xs : List X) (i : ℕ) (x : X) → Each P xs → slice_get xs i ≡ Some x → P x
each-at P xs i x h e = each-has P xs x h (Has-at xs i x e)

two-at : {X : Type 0} (R : X → X → Type 0) (xs : List X) (i j : ℕ) (x y : X) → EachTwo R xs → i < j → slice_get xs i ≡ Some x → slice_get xs j ≡ Some y → R x y
two-at R [] i j x y h less ex ey = absurd (let none : None ≡ Some x = ex in cc)
two-at R (a ∷ xs) zero zero x y h less ex ey = absurd (omega arith)
two-at R (a ∷ xs) zero (suc j) x y h less ex ey = subst (λ z. R z y) (same-Some a x ex) (each-at (R a) xs j y h.0 ey)
two-at R (a ∷ xs) (suc i) zero x y h less ex ey = absurd (omega arith)
two-at R (a ∷ xs) (suc i) (suc j) x y h less ex ey = two-at R xs i j x y h.1 (omega arith) ex ey

module _ (dp : Dp) (laws : IsLawful dp) (chained : IsChained dp) (p : List ℕ) (w : ℕ) (t : Option ℤ) (prefix : IsPrefix dp p) (short : length p < dp.vars) (some : 1 ≤ w) where
  abbrev d : DdLayers
  d = relaxed dp (reached dp p) w t

  seen : IsDiagram dp p w t d
  seen = compiled-is-diagram dp laws chained p w t prefix short some

  -- the node of a child, in its layer
  record InLayer (c : ChildAt) : Type 0 where
    node : DdNode
    exact : IsTrue node.exact
    layer : List DdNode
    at : slice_get d.layers (c.depth - length p) ≡ Some layer
    is : slice_get layer c.place ≡ Some node
    deep : length node.path ≡ c.depth
    ranked : AreRanked dp t c.depth layer
    child : child_from d c ≡ record { decisions = node.path; row = node.row; value = node.value; bound = c.bound }

  in-layer : (c : ChildAt) → IsChildPlaced dp d c → InLayer c
  in-layer c h =
      let below = h.below in
      let at = layer-of d c.depth c.place h.node h.is in
      let place : length p + (c.depth - length p) ≡ c.depth = omega arith in
      let keeps = (keeps-at dp p w t (length p) (c.depth - length p) d.layers seen.layer at.0 at.1).keeps in
      let reached_by = each-has (λ (n : DdNode). IsTrue n.exact → IsReachedBy dp p (length p + (c.depth - length p)) n) at.0 h.node keeps.exact (Has-at at.0 c.place h.node at.2) h.exact in
      let under : c.depth - length p ≡ suc (c.depth - length p - 1) = omega arith in
      let deep : length p + suc (c.depth - length p - 1) ≡ c.depth = omega arith in
      record {
        node = h.node;
        exact = h.exact;
        layer = at.0;
        at = at.1;
        is = at.2;
        deep = reached_by.depth ∙ place;
        ranked = subst (λ n. AreRanked dp t n at.0) deep (relaxed-ranked dp p w t (c.depth - length p - 1) at.0 (ap (slice_get d.layers) (sym under) ∙ at.1));
        child = ap (λ o. with_bound o c.bound) h.is;
      }

  comes-first : (a b : ChildAt) → InLayer a → InLayer b → IsBefore a b → ComesFirst dp (child_from d a) (child_from d b)
  comes-first a b x y before =
      let Goal : Subproblem → Subproblem → Type 0 = λ u v. ComesFirst dp u v in
      let lx = x.deep in let ly = y.deep in
      let by-nodes : ComesFirst dp (record { decisions = x.node.path; row = x.node.row; value = x.node.value; bound = a.bound }) (record { decisions = y.node.path; row = y.node.row; value = y.node.value; bound = b.bound }) =
      elim before as (λ _. ComesFirst dp (record { decisions = x.node.path; row = x.node.row; value = x.node.value; bound = a.bound }) (record { decisions = y.node.path; row = y.node.row; value = y.node.value; bound = b.bound })) [
        | inl less ↦ inl (omega arith)
        | inr same ↦ (
            let layers : x.layer ≡ y.layer = same-Some x.layer y.layer (sym x.at ∙ (ap (λ n. slice_get d.layers (n - length p)) same.0 ∙ y.at)) in
            let there : slice_get x.layer b.place ≡ Some y.node = ap (λ l. slice_get l b.place) layers ∙ y.is in
            let ranked = two-at (Ranked dp a.depth) x.layer a.place b.place x.node y.node x.ranked.order same.1 x.is there in
            let order = ranked x.exact y.exact in
            inr (lx ∙ (same.0 ∙ sym ly), subst (λ n. IsTrue (stands_before dp n (prefix_at x.node) (prefix_at y.node))) (sym lx) order))
      ] in
      subst (λ u. Goal u (child_from d b)) (sym x.child) (subst (λ v. Goal (record { decisions = x.node.path; row = x.node.row; value = x.node.value; bound = a.bound }) v) (sym y.child) by-nodes)

  child-unstruck : (c : ChildAt) → InLayer c → is_struck_by (child_from d c).value (dp.rough (length (child_from d c).decisions) (child_from d c).row) t ≡ false
  child-unstruck c x =
      let here : is_struck dp c.depth t x.node ≡ false = each-at (Unstruck dp t c.depth) x.layer c.place x.node x.ranked.unstruck x.is x.exact in
      subst (λ (u : Subproblem). is_struck_by u.value (dp.rough (length u.decisions) u.row) t ≡ false) (sym x.child)
      (subst (λ n. is_struck_by x.node.value (dp.rough n x.node.row) t ≡ false) (sym x.deep) here)

  pub children-stand : (kind : CutKind) → ChildrenStand dp t (children_of dp d kind)
  children-stand kind =
      let cs = children_at dp d kind in
      let in-all : (c : ChildAt) → Has c cs → InLayer c = λ c has. in-layer c (placed dp p w t d kind short seen c has) in
      record {
        order = two-map (child_from d) (ComesFirst dp) cs (two-given IsBefore (λ a b. ComesFirst dp (child_from d a) (child_from d b)) cs (children-before dp d kind) (λ a b ha hb before. comes-first a b (in-all a ha) (in-all b hb) before));
        unstruck = Each-map (child_from d) (λ (c : Subproblem). is_struck_by c.value (dp.rough (length c.decisions) c.row) t ≡ false) cs
            (each-of-all (λ (c : ChildAt). is_struck_by (child_from d c).value (dp.rough (length (child_from d c).decisions) (child_from d c).row) t ≡ false) cs (λ c has. child-unstruck c (in-all c has)));
      }
