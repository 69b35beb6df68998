-- The layers of a cover and of a diagram by their places.
use Rattle.std.proofs.Common.{◌≡◌, ℕ, zero, suc, ◌+◌, ◌-◌, ◌<◌, ◌≤◌, nat_eq, ℤ, true, false, not, cond, ◌&&◌, List, [], ◌∷◌, length, take, slice_get, Option, Some, None, option_map, ◌⊎◌, inl, inr, IsTrue, refl, sym, ◌∙◌, ap, subst, arith, add-zero}
use Rattle.std.proofs.lemmas.List.{length-map}
use Rattle.std.proofs.lemmas.Bool.{and_parts}
use Rattle.std.proofs.lemmas.Option.{slice_get-map}
use Rattle.dp_model.specs.Decisions.{below}
use Rattle.dp_model.specs.Dp.{Dp}
use Rattle.dp_model.proofs.Members.{Has, each-has}
use Rattle.dp_laws.specs.Diagrams.Nodes.{DdNode, DdLayers}
use Rattle.dp_laws.specs.Diagrams.Seen.{IsLayer, AreLayers, IsReachedBy, IsDiagram, exact_layers}
use Rattle.dp_laws.proofs.Diagrams.Places.{same-Some, below-at, length-below}
use Rattle.dp_laws.proofs.Diagrams.LastExact.{all-exact}
use Rattle.bound_cover.specs.Covers.{CoverRow}
use Rattle.bound_cover.specs.Exploring.{layer_of, is_last_exact, leads_above, all_wait, needed_layers, Waiting, explored_layer, explored}

pub layer-at : {X : Type 0} (layers : List (List X)) (j : ℕ) (layer : List X) → slice_get layers j ≡ Some layer → layer_of layers j ≡ layer
layer-at [] j layer e = absurd (let none : None ≡ Some layer = e in cc)
layer-at (x ∷ layers) zero layer e = same-Some x layer e
layer-at (x ∷ layers) (suc j) layer e = layer-at layers j layer e

pub layer-is-at : {X : Type 0} (layers : List (List X)) (j : ℕ) → j < length layers → slice_get layers j ≡ Some (layer_of layers j)
layer-is-at [] j h = absurd (omega arith)
layer-is-at (x ∷ layers) zero h = refl
layer-is-at (x ∷ layers) (suc j) h = layer-is-at layers j (omega arith)

pub layer-beyond : {X : Type 0} (layers : List (List X)) (j : ℕ) → length layers ≤ j → layer_of layers j ≡ []
layer-beyond [] j h = refl
layer-beyond (x ∷ layers) zero h = absurd (omega arith)
layer-beyond (x ∷ layers) (suc j) h = layer-beyond layers j (omega arith)

-- ---- the cover after a step

pub explored-long : (dp : Dp) (best : Option ℤ) (q : Waiting) (d : DdLayers) (rows : List (List CoverRow)) → length (explored dp best q d rows) ≡ dp.vars + 1
explored-long dp best q d rows = length-map (below (dp.vars + 1)) (explored_layer dp best q d rows) ∙ length-below (dp.vars + 1)

pub explored-at : (dp : Dp) (best : Option ℤ) (q : Waiting) (d : DdLayers) (rows : List (List CoverRow)) (j : ℕ) → j ≤ dp.vars → layer_of (explored dp best q d rows) j ≡ explored_layer dp best q d rows j
explored-at dp best q d rows j low =
    layer-at (explored dp best q d rows) j (explored_layer dp best q d rows j)
    (slice_get-map (explored_layer dp best q d rows) (below (dp.vars + 1)) j ∙ ap (option_map (explored_layer dp best q d rows)) (below-at (dp.vars + 1) j (omega arith)))

-- ---- the layers of a diagram

-- the layer at a place, with the one below it
pub keeps-layer : (dp : Dp) (p : List ℕ) (w : ℕ) (t : Option ℤ) (k m : ℕ) (layers : List (List DdNode)) → AreLayers dp p w t k layers → m < length layers → IsLayer dp p w t (k + m) (layer_of layers m) (layer_of layers (suc m))
keeps-layer dp p w t k m [] all h = absurd (omega arith)
keeps-layer dp p w t k zero (layer ∷ []) all h = subst (λ n. IsLayer dp p w t n layer []) (sym (add-zero k)) all
keeps-layer dp p w t k (suc m) (layer ∷ []) all h = absurd (omega arith)
keeps-layer dp p w t k zero (layer ∷ next ∷ rest) all h = subst (λ n. IsLayer dp p w t n layer next) (sym (add-zero k)) all.0
keeps-layer dp p w t k (suc m) (layer ∷ next ∷ rest) all h =
    let same : k + 1 + m ≡ k + suc m = omega arith in
    subst (λ n. IsLayer dp p w t n (layer_of (next ∷ rest) m) (layer_of (next ∷ rest) (suc m))) same (keeps-layer dp p w t (k + 1) m (next ∷ rest) all.1 (omega arith))

-- the nodes of each layer are states
pub layer-states : (dp : Dp) (p : List ℕ) (w : ℕ) (t : Option ℤ) (k m : ℕ) (layers : List (List DdNode)) → AreLayers dp p w t k layers → (x : DdNode) → Has x (layer_of layers m) → IsTrue (dp.is_state (k + m) x.row)
layer-states dp p w t k m layers all x h =
    let split : (m < length layers) ⊎ (length layers ≤ m) = grind arith in
    elim split as (λ _. IsTrue (dp.is_state (k + m) x.row)) [
      | inl less ↦ each-has (λ (n : DdNode). IsTrue (dp.is_state (k + m) n.row)) (layer_of layers m) x (keeps-layer dp p w t k m layers all less).states h
      | inr beyond ↦ absurd (subst (λ l. Has x l) (layer-beyond layers m beyond) h)
    ]

-- a node above the first reduced layer stands for a prefix
pub reached-at : (dp : Dp) (p : List ℕ) (w : ℕ) (t : Option ℤ) (d : DdLayers) → IsDiagram dp p w t d → (m : ℕ) → m < length d.layers → m < exact_layers dp.vars (length p) d.first_reduced → (node : DdNode) → Has node (layer_of d.layers m) → IsReachedBy dp p (length p + m) node
reached-at dp p w t d h m inside less node has =
    let keeps = keeps-layer dp p w t (length p) m d.layers h.layer inside in
    let exact = all-exact dp p w t d h (exact_layers dp.vars (length p) d.first_reduced) m refl less (layer_of d.layers m) (layer-is-at d.layers m inside) node has in
    each-has (λ (n : DdNode). IsTrue n.exact → IsReachedBy dp p (length p + m) n) (layer_of d.layers m) node keeps.exact has exact

-- ---- the layers that get rows

layer-take : {X : Type 0} (n i : ℕ) (layers : List (List X)) → i < n → layer_of (take n layers) i ≡ layer_of layers i
layer-take zero i layers h = absurd (omega arith)
layer-take (suc n) i [] h = refl
layer-take (suc n) zero (x ∷ layers) h = refl
layer-take (suc n) (suc i) (x ∷ layers) h = layer-take n i layers (omega arith)

layer-cut : {X : Type 0} (n i : ℕ) (layers : List (List X)) → n ≤ i → layer_of (take n layers) i ≡ []
layer-cut zero i layers h = refl
layer-cut (suc n) i [] h = refl
layer-cut (suc n) zero (x ∷ layers) h = absurd (omega arith)
layer-cut (suc n) (suc i) (x ∷ layers) h = layer-cut n i layers (omega arith)

-- each layer above the first reduced one gets rows
pub needed-above : (best : Option ℤ) (first : ℕ) (d : DdLayers) (o : Option ℕ) (i : ℕ) → ((depth : ℕ) → o ≡ Some depth → i < depth - first) → layer_of (needed_layers best first d o) i ≡ layer_of d.layers i
needed-above best first d None i h = refl
needed-above best first d (Some depth) i h =
    elim (all_wait best (layer_of d.layers (depth - 1 - first))) as (λ b. layer_of (cond b (take (depth - first) d.layers) d.layers) i ≡ layer_of d.layers i) [ true ↦ layer-take (depth - first) i d.layers (h depth refl) | false ↦ refl ]

-- a node that gets a row is one of the diagram's
pub needed-in : (best : Option ℤ) (first : ℕ) (d : DdLayers) (o : Option ℕ) (i t : ℕ) (node : DdNode) → slice_get (layer_of (needed_layers best first d o) i) t ≡ Some node → slice_get (layer_of d.layers i) t ≡ Some node
needed-in best first d None i t node h = h
needed-in best first d (Some depth) i t node h =
    elim (all_wait best (layer_of d.layers (depth - 1 - first))) as (λ b. slice_get (layer_of (cond b (take (depth - first) d.layers) d.layers) i) t ≡ Some node → slice_get (layer_of d.layers i) t ≡ Some node) [
      | true ↦ λ e. (
          let split : (i < depth - first) ⊎ (depth - first ≤ i) = grind arith in
          elim split as (λ _. slice_get (layer_of d.layers i) t ≡ Some node) [
            | inl less ↦ ap (λ l. slice_get l t) (sym (layer-take (depth - first) i d.layers less)) ∙ e
            | inr beyond ↦ absurd (let none : None ≡ Some node = ap (λ l. slice_get l t) (sym (layer-cut (depth - first) i d.layers beyond)) ∙ e in cc)
          ])
      | false ↦ λ e. e
    ] h

waits-of : (best : Option ℤ) (nodes : List DdNode) (t : ℕ) (node : DdNode) → IsTrue (all_wait best nodes) → slice_get nodes t ≡ Some node → IsTrue (leads_above best node)
waits-of best [] t node all e = absurd (let none : None ≡ Some node = e in cc)
waits-of best (x ∷ nodes) zero node all e = subst (λ (n : DdNode). IsTrue (leads_above best n)) (same-Some x node e) (and_parts (leads_above best x) (all_wait best nodes) all).0
waits-of best (x ∷ nodes) (suc t) node all e = waits-of best nodes t node (and_parts (leads_above best x) (all_wait best nodes) all).1 e

-- the layer below a node that gets a row and does not wait gets rows
pub needed-next : (best : Option ℤ) (first : ℕ) (d : DdLayers) (o : Option ℕ) (k i t : ℕ) (node : DdNode) → k ≡ first + i → slice_get (layer_of (needed_layers best first d o) i) t ≡ Some node → IsTrue (not (is_last_exact o k && leads_above best node))
    → layer_of (needed_layers best first d o) (suc i) ≡ layer_of d.layers (suc i)
needed-next best first d None k i t node place h stays = refl
needed-next best first d (Some depth) k i t node place h stays =
    let there = needed-in best first d (Some depth) i t node h in
    elim (all_wait best (layer_of d.layers (depth - 1 - first))) as (λ b. all_wait best (layer_of d.layers (depth - 1 - first)) ≡ b → slice_get (layer_of (cond b (take (depth - first) d.layers) d.layers) i) t ≡ Some node → layer_of (cond b (take (depth - first) d.layers) d.layers) (suc i) ≡ layer_of d.layers (suc i)) [
      | true ↦ λ all e. (
          let split : (suc i < depth - first) ⊎ ((suc i ≡ depth - first) ⊎ (depth - first ≤ i)) = grind arith in
          elim split as (λ _. layer_of (take (depth - first) d.layers) (suc i) ≡ layer_of d.layers (suc i)) [
            | inl less ↦ layer-take (depth - first) (suc i) d.layers less
            | inr rest ↦ elim rest as (λ _. layer_of (take (depth - first) d.layers) (suc i) ≡ layer_of d.layers (suc i)) [
              | inl last ↦ absurd (
                  let at-i : depth - 1 - first ≡ i = omega arith in
                  let up : depth ≡ k + 1 = omega arith in
                  let cut : nat_eq depth (k + 1) ≡ true = grind arith in
                  let waits = waits-of best (layer_of d.layers i) t node (subst (λ n. IsTrue (all_wait best (layer_of d.layers n))) at-i all) there in
                  let leads : leads_above best node ≡ true = waits in
                  let clash : not (nat_eq depth (k + 1) && leads_above best node) ≡ false = rw (cut, leads) refl in
                  let both : true ≡ false = sym stays ∙ clash in cc)
              | inr beyond ↦ absurd (let none : None ≡ Some node = ap (λ l. slice_get l t) (sym (layer-cut (depth - first) i d.layers beyond)) ∙ e in cc)
            ]
          ])
      | false ↦ λ _ _. refl
    ] refl h
