-- What was merged at once is what comes of merging the layer with all its keys in order.
use Rattle.std.proofs.Common.{◌≡◌, ◌≢◌, ℕ, ◌-◌, ◌<◌, ◌≤◌, ℤ, false, Bool, List, [], ◌∷◌, ◌++◌, length, map, take, drop, Option, Some, None, IsPermutation, refl, sym, ◌∙◌, ap, ap₂, subst, arith}
use Rattle.std.proofs.Math.Seq.{take-append_seam}
use Rattle.std.proofs.lemmas.List.{length-map, length-take-le, take-map, drop-map}
use Rattle.std.proofs.lemmas.List.Sorted.{IsPermutation-map, IsPermutation-sym, length_permutation}
use Rattle.dp_model.specs.Dp.{Dp}
use Rattle.dp_model.specs.Gaps.{IsStateOf}
use Rattle.dp_model.specs.Laws.{IsLawful}
use Rattle.dp_model.specs.Lists.{Each}
use Rattle.dp_model.proofs.Members.{Each-map, Each-then}
use Rattle.dp_laws.specs.Diagrams.Nodes.{DdNode}
use Rattle.dp_laws.specs.Rules.Reducing.{staying, row_of_all, merged_node, redirect_by, merge_redirect}
use Rattle.dp_laws.proofs.Restricted.Permutations.{each-permutation}
use Rattle.dp_laws.proofs.Rules.AnyOrder.{rows-any-order, node-any-order}
use Rattle.layer_candidates.specs.declared.key.Key.{Key}
use Rattle.layer_candidates.specs.declared.way.Way.{Way}
use Rattle.layer_candidates.specs.HeldRows.{held_row, AreLive, HasExchanged}
use Rattle.layer_candidates.specs.KeyOrder.{goes_before, key_rows}
use Rattle.layer_candidates.specs.Pruning.{IsKeyIn}
use Rattle.layer_candidates.specs.Ways.{rows_of, way_row, AreDistinct}
use Rattle.layer_candidates.proofs.Layered.{key-in}
use Rattle.layer_candidates.proofs.Pruned.{keys-same}
use Rattle.layer_candidates.proofs.Sorted.{goes-strict, unstruck-are}
use Rattle.row_region.specs.Region.{RegionView, IsRow}
use Rattle.layer_nodes.specs.declared.node.Node.{Node}
use Rattle.layer_nodes.specs.declared.routing.Route.{Route}
use Rattle.layer_nodes.specs.Expanding.{node_of}
use Rattle.layer_nodes.specs.Holding.{HaveRows}
use Rattle.layer_nodes.specs.Leading.{bare}
use Rattle.layer_nodes.specs.Merging.{HasMerged}
use Rattle.layer_nodes.specs.Redirecting.{IsShort}
use Rattle.layer_nodes.specs.Reducing.{bare_keys, key_node, row_of_keys, AreInexact, AreReduced}
use Rattle.layer_nodes.specs.Stored.{rows_in}
use Rattle.layer_nodes.proofs.InFull.{rest-moved, keys-moved, drop-full}
use Rattle.layer_nodes.proofs.InOrder.{put_all}
use Rattle.layer_nodes.proofs.KeyRows.{rows-of-nodes}
use Rattle.layer_nodes.proofs.Reordered.{in_full, nodes_in_full, last_of, last_redirects}
use Rattle.layer_nodes.proofs.Stored.{each-drop}

-- ---- rows and redirects

-- the order of the places that are given back does not matter
pub exchange-before : (old new : RegionView) (before moved held : List ℕ) → IsPermutation before moved → HasExchanged old before new held → HasExchanged old moved new held
exchange-before old new before moved held perm h =
    let long = length_permutation before moved perm in
    let spare = h.spare in
    record {
      words = h.words;
      count = h.count;
      spare = omega arith;
      others = λ place row here apart. h.others place row here (each-permutation moved before (IsPermutation-sym before moved perm) (λ (other : ℕ). place ≢ other) apart);
      live = h.live;
    }

-- a redirect to a merged node is short
module _ (dp : Dp) (k place : ℕ) (laws : IsLawful dp) (row : List ℤ) (into : IsStateOf dp k row) where
  short-redirect : (s : List ℤ) → IsStateOf dp k s → (o : Option ℤ) → dp.gap k row s ≡ o → IsShort (redirect_by place o)
  short-redirect s state None e = tt
  short-redirect s state (Some g) e = (laws.sizes.gap k row s g into state e).1

  pub short-redirects : (nodes : List DdNode) → Each (λ (node : DdNode). IsStateOf dp k node.row) nodes → Each IsShort (map (merge_redirect dp k place row) nodes)
  short-redirects [] all = tt
  short-redirects (node ∷ nodes) all = (short-redirect node.row all.0 (dp.gap k row node.row) refl, short-redirects nodes all.1)

-- nodes of inexact ways tell what their keys tell
pub bare-nodes : (held : ℕ → List ℤ) (ways : List Way) (marks : List Bool) (keys : List Key) → AreInexact marks keys → map (bare held) (map (node_of ways marks) keys) ≡ bare_keys held keys
bare-nodes held ways marks [] h = refl
bare-nodes held ways marks (key ∷ keys) h =
    ap₂ (λ (e : Bool) (l : List DdNode). record { row = held key.row; value = key.value; exact = e; arcs = []; path = []; suffix = None } ∷ l) h.0 (bare-nodes held ways marks keys h.1)

-- ---- the keys in full

module _ (held : ℕ → List ℤ) (n : ℕ) (keys : List Key) (some : n ≤ length keys) where
  take-full : take n (in_full held n keys) ≡ take n keys
  take-full = sym (ap (λ m. take m (in_full held n keys)) (length-take-le n keys some)) ∙ take-append_seam (take n keys) (put_all (goes_before held) (goes-strict held) (drop n keys))

  moved-last : IsPermutation (drop n keys) (drop n (in_full held n keys))
  moved-last = subst (IsPermutation (drop n keys)) (sym (drop-full held n keys some)) (rest-moved held n keys)

-- ---- the nodes in full

module _ (dp : Dp) (k : ℕ) (t : Option ℤ) (width : ℕ) (region : RegionView) (ways : List Way) (marks : List Bool) (new : RegionView) (routes : List Route) (nodes : List Node)
    (r : AreReduced dp k t width region ways marks new routes nodes) where
  abbrev n : ℕ
  n = width - 1

  abbrev held : ℕ → List ℤ
  held = held_row r.left

  abbrev full : List Key
  full = in_full held n r.keys

  abbrev all : List Node
  all = nodes_in_full held ways marks n r.keys

  abbrev following : List DdNode
  following = bare_keys held (drop n r.keys)

  abbrev last : List DdNode
  last = last_of held n all

  enough : n ≤ length r.keys
  enough = let wide = r.wide in omega arith

  moved-keys : IsPermutation r.keys full
  moved-keys = keys-moved held n r.keys

  inexact-keys : AreInexact marks full
  inexact-keys = each-permutation r.keys full moved-keys _ r.inexact

  last-is : last ≡ bare_keys held (drop n full)
  last-is = ap (map (bare held)) (drop-map (node_of ways marks) n full) ∙ bare-nodes held ways marks (drop n full) (each-drop _ n full inexact-keys)

  moved-nodes : IsPermutation following last
  moved-nodes =
      subst (IsPermutation following) (sym last-is)
      (IsPermutation-map (bare held) (map key_node (drop n r.keys)) (map key_node (drop n full))
      (IsPermutation-map key_node (drop n r.keys) (drop n full) (moved-last held n r.keys enough)))

  rows-full : rows_in all ≡ key_rows full
  rows-full = rows-of-nodes ways marks full

  front-full : take n all ≡ map (node_of ways marks) (take n r.keys)
  front-full = take-map (node_of ways marks) n full ∙ ap (map (node_of ways marks)) (take-full held n r.keys enough)

  pub full-wide : width < length all
  full-wide =
      let wide = r.wide in
      let same = length_permutation r.keys full moved-keys in
      let mapped = length-map full (node_of ways marks) in
      omega arith

  pub full-inexact : Each (λ (node : Node). node.exact ≡ false) all
  full-inexact = Each-map (node_of ways marks) (λ (node : Node). node.exact ≡ false) full inexact-keys

  module _ (laws : IsLawful dp) (distinct : AreDistinct dp k (way_row region ways) ways) (live : AreLive region (rows_of ways)) where
    keys-in : Each (IsKeyIn dp k r.left) r.keys
    keys-in = keys-same dp k region r.left r.keys r.stay.same (key-in dp k region ways distinct.good live.live r.keys (unstruck-are dp k t region ways r.keys r.all))

    states : Each (λ (node : DdNode). IsStateOf dp k node.row) following
    states =
        Each-map (bare held) (λ (node : DdNode). IsStateOf dp k node.row) (map key_node (drop n r.keys))
        (Each-map key_node (λ (node : Node). IsStateOf dp k (held node.row)) (drop n r.keys)
        (each-drop (λ (key : Key). IsStateOf dp k (held key.row)) n r.keys (Each-then (IsKeyIn dp k r.left) (λ (key : Key). IsStateOf dp k (held key.row)) r.keys (λ key h. h.state) keys-in)))

    -- the row of the merged node
    pub full-row : row_of_all dp k last ≡ row_of_keys dp k held (drop n r.keys)
    full-row = sym (rows-any-order dp laws r.free k following last moved-nodes states)

    -- the merged node
    pub full-node : merged_node dp k last ≡ merged_node dp k following
    full-node = sym (node-any-order dp laws r.free k following last moved-nodes states)

    full-state : IsStateOf dp k (row_of_all dp k last)
    full-state = subst (IsStateOf dp k) (sym full-row) r.merged.state

    -- what is there is what the nodes in full are merged into
    pub full-merged : HasMerged dp k width r.left all new nodes (last_redirects dp k held n all)
    full-merged =
        let place = r.merged.place in
        let before = IsPermutation-map (λ (key : Key). key.row) r.keys full moved-keys in
        record {
          place = place;
          list = r.merged.list
              ∙ ap₂ (λ (l : List Node) (m : Node). l ++ m ∷ []) (sym front-full)
              (ap₂ (λ (v : ℤ) (s : List ℤ). record { value = v; rank = dp.rank k s; hash = dp.hash k s; suffix = None; parent = None; row = place; decision = 0; first_arc = 0; arcs = 0; exact = false })
              (sym (ap (λ (m : DdNode). m.value) full-node)) (sym full-row));
          held = subst (HaveRows new held) (sym (ap rows_in front-full ∙ rows-of-nodes ways marks (take n r.keys))) r.merged.held;
          merged = subst (IsRow new place) (sym full-row) r.merged.merged;
          state = full-state;
          exchanged = subst (λ l. HasExchanged r.left l new (rows_in nodes)) (sym rows-full) (exchange-before r.left new (key_rows r.keys) (key_rows full) (rows_in nodes) before r.merged.exchanged);
          targets = ap (λ l. staying n ++ map (merge_redirect dp k n (row_of_all dp k l)) l) (sym (drop-map (bare held) n all));
          short = short-redirects dp k n laws (row_of_all dp k last) full-state last (each-permutation following last moved-nodes (λ (node : DdNode). IsStateOf dp k node.row) states);
        }
