-- The last exact layer of a relaxed diagram is ready to be taken.
use Rattle.std.proofs.Common.{◌≡◌, ℕ, suc, zero, ◌+◌, ◌-◌, ◌*◌, ◌<◌, ◌≤◌, nat_le, nat_lt, ℤ, true, false, cond, ◌&&◌, List, [], ◌∷◌, length, slice_get, Option, Some, None, unwrap_or, ◌⊎◌, inl, inr, IsTrue, refl, sym, ◌∙◌, ap, subst, arith}
use Rattle.std.proofs.lemmas.List.{length-map}
use Rattle.dp_model.specs.Dp.{Dp}
use Rattle.dp_model.specs.Gaps.{IsStateOf}
use Rattle.dp_model.specs.Laws.{IsLawful, IsChained}
use Rattle.dp_model.specs.Reached.{reached}
use Rattle.dp_model.proofs.Members.{each-has}
use Rattle.dp_laws.specs.Restricted.Beam.{is_reduced}
use Rattle.dp_laws.specs.Diagrams.Nodes.{DdNode, DdLayers, node_at}
use Rattle.dp_laws.specs.Diagrams.Seen.{IsDiagram, suffix_from, exact_layers}
use Rattle.dp_laws.specs.Rules.Expanding.{new_layer}
use Rattle.dp_laws.specs.Rules.Pruning.{prune_redirects}
use Rattle.dp_laws.specs.Rules.Reducing.{merge_redirects}
use Rattle.dp_laws.specs.Rules.Compiling.{expand, prune, merge_rest, is_wide, built, compiled, first_of_layers, with_suffixes, start_layer, relaxed}
use Rattle.dp_laws.proofs.Diagrams.Fits.{child-far}
use Rattle.dp_laws.proofs.Diagrams.LastExact.{all-exact}
use Rattle.dp_laws.proofs.Diagrams.Places.{Has-at}
use Rattle.dp_laws.proofs.Diagrams.Starts.{reducible}
use Rattle.dp_laws.proofs.Diagrams.Walks.{keeps-at}
use Rattle.dp_laws.proofs.Rules.Diagrams.{compiled-is-diagram}
use Rattle.dp_laws.proofs.Rules.Expanded.{with_arcs_of}
use Rattle.dp_laws.proofs.Rules.Fitting.{layers-fit}
use Rattle.dp_laws.proofs.Rules.Pruned.{few-pruned}
use Rattle.dp_laws.proofs.Rules.Redirecting.{followed_node}
use Rattle.relaxed_dd.specs.Shown.{layer_in, last_of, IsRelaxed}
use Rattle.relaxed_dd.specs.Cut.{IsWideEnough}
use Rattle.exact_cutset.specs.Ready.{IsChildReadyAt, CutIsReady}
use Rattle.exact_cutset.proofs.Searched.{there}
use Rattle.exact_cutset.proofs.Taken.{node-here}

-- How many nodes the layer below the first one has.

abbrev pub nth : List (List DdNode) → ℕ → List DdNode
nth ls i = unwrap_or (slice_get ls i) []

built-length : (dp : Dp) (first w : ℕ) (t : Option ℤ) (k : ℕ) (layer : List DdNode) → length (built dp first w t k layer).above ≡ length layer
built-length dp first w t k layer =
    let next = new_layer dp k layer in
    let two = prune dp (k + 1) t (expand dp k layer) in
    let one = length-map layer (with_arcs_of dp k next) in
    let pruned : length two.above ≡ length layer = length-map (expand dp k layer).above (followed_node (prune_redirects dp (k + 1) t [] 0 next)) ∙ one in
    elim (is_wide dp first w (k + 1) two.next) as (λ v. length (cond v (merge_rest dp (k + 1) w two) two).above ≡ length layer) [
      | true ↦ length-map two.above (followed_node (merge_redirects dp (k + 1) w two.next)) ∙ pruned
      | false ↦ pruned
    ]

head-length : (dp : Dp) (first w : ℕ) (t : Option ℤ) (k m : ℕ) (layer : List DdNode) → length (nth (compiled dp first w t k m layer) 0) ≡ length layer
head-length dp first w t k zero layer = refl
head-length dp first w t k (suc m) layer = built-length dp first w t k layer

suffixed-length : (dp : Dp) (k i : ℕ) (ls : List (List DdNode)) → length (nth (with_suffixes dp k ls) i) ≡ length (nth ls i)
suffixed-length dp k i [] = refl
suffixed-length dp k zero (layer ∷ rest) = length-map layer (λ (node : DdNode). record node { suffix = suffix_from dp k (first_of_layers (with_suffixes dp (k + 1) rest)) node.arcs })
suffixed-length dp k (suc i) (layer ∷ rest) = suffixed-length dp (k + 1) i rest

next-few : (dp : Dp) (first w : ℕ) (t : Option ℤ) (k : ℕ) (layer : List DdNode) → is_reduced dp first (k + 1) ≡ false → length (built dp first w t k layer).next ≤ length layer * dp.choices k
next-few dp first w t k layer uncut =
    let two = prune dp (k + 1) t (expand dp k layer) in
    let narrow : is_wide dp first w (k + 1) two.next ≡ false = ap (λ b. b && nat_lt w (length two.next)) uncut in
    let same : length (built dp first w t k layer).next ≡ length two.next = ap (λ b. length (cond b (merge_rest dp (k + 1) w two) two).next) narrow in
    let few = few-pruned dp (k + 1) t [] 0 (expand dp k layer).next in
    let most = layers-fit dp k layer in
    omega arith

pub second-few : (dp : Dp) (p : List ℕ) (w : ℕ) (t : Option ℤ) → length p < dp.vars → length (nth (relaxed dp (reached dp p) w t).layers 1) ≤ dp.choices (length p)
second-few dp p w t short =
    let k = length p in
    let start = start_layer (reached dp p) in
    let m = dp.vars - k - 1 in
    let more : dp.vars - k ≡ suc m = omega arith in
    let uncut : is_reduced dp k (k + 1) ≡ false = grind arith in
    let next = next-few dp k w t k start uncut in
    let size : length (nth (compiled dp k w t k (suc m) start) 1) ≡ length (built dp k w t k start).next = head-length dp k w t (k + 1) m (built dp k w t k start).next in
    let all = suffixed-length dp k 1 (compiled dp k w t k (suc m) start) in
    let one : length start * dp.choices k ≡ dp.choices k = omega arith in
    let goal : length (nth (with_suffixes dp k (compiled dp k w t k (suc m) start)) 1) ≤ dp.choices k = omega arith in
    subst (λ n. length (nth (with_suffixes dp k (compiled dp k w t k n start)) 1) ≤ dp.choices k) (sym more) goal

-- The last exact layer.

module _ (dp : Dp) (laws : IsLawful dp) (p : List ℕ) (w : ℕ) (t : Option ℤ) (d : DdLayers) (short : length p < dp.vars) (h : IsDiagram dp p w t d) where
  -- the layer at a depth
  pub layer-there : (depth : ℕ) → length p ≤ depth → depth ≤ dp.vars → slice_get d.layers (depth - d.first) ≡ Some (layer_in d depth)
  layer-there depth deep low =
      let first = h.first in
      let long = h.depth in
      let l = there d.layers (depth - d.first) (omega arith) in
      l.1 ∙ ap Some (sym (ap (λ (o : Option (List DdNode)). unwrap_or o []) l.1))

  pub few-nodes : (room depth : ℕ) → IsWideEnough dp w dp.vars room → length (nth d.layers 1) ≤ dp.choices (length p) → length p < depth → depth < dp.vars → length (layer_in d depth) ≤ room
  few-nodes room depth enough second deep low =
      let first = h.first in
      let wide = enough.width in
      let split : (depth - d.first ≡ 1) ⊎ (2 ≤ depth - d.first) = grind arith in
      elim split as (λ _. length (layer_in d depth) ≤ room) [
        | inl one ↦ (let same : length (layer_in d depth) ≡ length (nth d.layers 1) = ap (λ i. length (nth d.layers i)) one in let most = enough.choices (length p) short in omega arith)
        | inr more ↦ (
            let m = depth - length p in
            let at : depth - d.first ≡ m = omega arith in
            let keeps = (keeps-at dp p w t (length p) m d.layers h.layer (layer_in d depth) (ap (slice_get d.layers) (sym at) ∙ layer-there depth (omega arith) (omega arith))).keeps in
            let cut : IsTrue (is_reduced dp (length p) (length p + m)) = (let a : nat_le (length p + 2) (length p + m) ≡ true = grind arith in let b : nat_lt (length p + m) dp.vars ≡ true = grind arith in rw a b) in
            let narrow = keeps.narrow cut in
            omega arith)
      ]

  ready : (depth reduced i : ℕ) → d.first_reduced ≡ Some reduced → depth + 1 ≡ reduced → length p < depth → depth < dp.vars → i < length (layer_in d depth) → IsChildReadyAt dp depth (node_at d depth i)
  ready depth reduced i e at deep low less =
      let first = h.first in
      let x = there (layer_in d depth) i less in
      let is : node_at d depth i ≡ Some x.0 = node-here d depth i ∙ x.1 in
      let m = depth - length p in
      let same : depth - d.first ≡ m = omega arith in
      let place : length p + m ≡ depth = omega arith in
      let layer-at : slice_get d.layers m ≡ Some (layer_in d depth) = ap (slice_get d.layers) (sym same) ∙ layer-there depth (omega arith) (omega arith) in
      let has = Has-at (layer_in d depth) i x.0 x.1 in
      let inside : m < exact_layers dp.vars (length p) d.first_reduced = rw e (omega arith) in
      let exact = all-exact dp p w t d h (exact_layers dp.vars (length p) d.first_reduced) m refl inside (layer_in d depth) layer-at x.0 has in
      let keeps = (keeps-at dp p w t (length p) m d.layers h.layer (layer_in d depth) layer-at).keeps in
      let state : IsStateOf dp depth x.0.row = record { layer = omega arith; test = subst (λ n. IsTrue (dp.is_state n x.0.row)) place (each-has (λ (n : DdNode). IsTrue (dp.is_state (length p + m) n.row)) (layer_in d depth) x.0 keeps.states has) } in
      subst (IsChildReadyAt dp depth) (sym is) (record {
        exact = exact;
        state = state;
        cells = laws.sizes.cells depth x.0.row state;
        far = λ bound b. child-far dp laws p w t d short h (record { depth = depth; place = i; bound = bound }) (record { node = x.0; is = is; exact = exact; below = omega arith; above = low; bound = b });
      })

  cut-of : (room : ℕ) (o : Option ℕ) → IsWideEnough dp w dp.vars room → length (nth d.layers 1) ≤ dp.choices (length p) → d.first_reduced ≡ o → CutIsReady dp d room o
  cut-of room None enough second e = tt
  cut-of room (Some reduced) enough second e =
      let r = reducible dp p w t reduced (sym h.first_reduced ∙ e) in
      let low = r.below_first in
      let high = r.above_last in
      let first = h.first in
      let long = h.depth in
      record {
        positive = omega arith;
        cut = record {
          first = omega arith;
          last = omega arith;
          low = omega arith;
          few = few-nodes room (reduced - 1) enough second (omega arith) (omega arith);
          ready = λ i less. ready (reduced - 1) reduced i e (omega arith) (omega arith) (omega arith) less;
        };
      }

-- a relaxed diagram is one as seen
abbrev pub seen : (dp : Dp) → IsLawful dp → IsChained dp → (w : ℕ) (d : DdLayers) (r : IsRelaxed dp w d) → IsDiagram dp r.prefix w r.threshold d
seen dp laws chained w d r = subst (IsDiagram dp r.prefix w r.threshold) (sym r.layers) (compiled-is-diagram dp laws chained r.prefix w r.threshold r.is_prefix r.shorter r.width.positive)

pub cut-is-ready : (dp : Dp) → IsLawful dp → IsChained dp → (w : ℕ) (d : DdLayers) → IsRelaxed dp w d → (room : ℕ) → IsWideEnough dp w dp.vars room → CutIsReady dp d room d.first_reduced
cut-is-ready dp laws chained w d r room enough =
    let second : length (nth d.layers 1) ≤ dp.choices (length r.prefix) = subst (λ (d : DdLayers). length (nth d.layers 1) ≤ dp.choices (length r.prefix)) (sym r.layers) (second-few dp r.prefix w r.threshold r.shorter) in
    cut-of dp laws r.prefix w r.threshold d r.shorter (seen dp laws chained w d r) room d.first_reduced enough second refl

pub last-is : (dp : Dp) → IsLawful dp → IsChained dp → (w : ℕ) (d : DdLayers) → IsRelaxed dp w d → last_of d ≡ dp.vars
last-is dp laws chained w d r =
    let h = seen dp laws chained w d r in
    let first = h.first in
    let long = h.depth in
    let short = r.shorter in
    omega arith
