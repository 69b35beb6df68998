-- A layer whose last nodes were merged, as it is shown.
use Rattle.std.proofs.Common.{◌≡◌, ℕ, ◌-◌, ◌<◌, ◌≤◌, ℤ, List, [], ◌∷◌, ◌++◌, length, map, take, drop, Option, sym, ◌∙◌, ap, ap₂, subst, arith, length-append}
use Rattle.std.proofs.lemmas.List.{map-append, take-map, drop-map, length-take-le}
use Rattle.dp_model.specs.Dp.{Dp}
use Rattle.dp_model.specs.Gaps.{IsStateOf}
use Rattle.dp_model.specs.Lists.{Each}
use Rattle.dp_model.proofs.Members.{Each-append, Each-then}
use Rattle.dp_laws.proofs.Lists.{each-take}
use Rattle.dp_laws.specs.declared.arc.DdArc.{DdArc}
use Rattle.dp_laws.specs.Diagrams.Nodes.{DdNode}
use Rattle.dp_laws.specs.Rules.Redirects.{Redirect}
use Rattle.dp_laws.specs.Rules.Reducing.{staying, row_of_all, merged_node, merged_layer, merge_redirects}
use Rattle.layer_candidates.specs.HeldRows.{held_row}
use Rattle.layer_candidates.proofs.HeldRows.{held-is}
use Rattle.row_region.specs.Region.{RegionView, IsRow}
use Rattle.layer_nodes.specs.declared.node.Node.{Node}
use Rattle.layer_nodes.specs.Holding.{AreHeld, HaveRows}
use Rattle.layer_nodes.specs.Leading.{bare}
use Rattle.layer_nodes.specs.Merging.{merged_at, HasMerged}
use Rattle.layer_nodes.specs.Nodes.{NodeView, shown_below}
use Rattle.layer_nodes.specs.Steps.{IsNodeOf, IsRanked}
use Rattle.layer_nodes.specs.Stored.{node_view_by, rows_in, HasArcsIn}
use Rattle.layer_nodes.proofs.Holding.{rows-own, rows-held, views-held}
use Rattle.layer_nodes.proofs.Merged.{strip, node-strip, redirects-strip}
use Rattle.layer_nodes.proofs.Shown.{map-map, seen, below-seen}

bare-seen : (paths : ℕ → List ℕ) (row : ℕ → List ℤ) (arcs : List DdArc) (nodes : List Node) → map strip (map (seen paths row arcs) nodes) ≡ map (bare row) nodes
bare-seen paths row arcs nodes = map-map strip (seen paths row arcs) nodes

module _ (dp : Dp) (k width : ℕ) (old : RegionView) (nodes : List Node) (region : RegionView) (nodes2 : List Node) (redirects : List (Option Redirect)) (arcs : List DdArc)
    (h : HasMerged dp k width old nodes region nodes2 redirects) where
  abbrev n : ℕ
  n = width - 1

  abbrev row : ℕ → List ℤ
  row = held_row old

  abbrev last : List DdNode
  last = map (bare row) (drop n nodes)

  abbrev new : Node
  new = merged_at dp k h.place last

  abbrev view : Node → NodeView
  view = node_view_by (held_row region) arcs

  new-row : held_row region h.place ≡ row_of_all dp k last
  new-row = held-is region h.place (row_of_all dp k last) h.merged.found

  -- the first nodes are as they were
  views : map (node_view_by (held_row region) arcs) nodes2 ≡ map (node_view_by (held_row old) arcs) (take n nodes) ++ node_view_by (held_row region) arcs new ∷ []
  views = ap (map view) h.list ∙ (map-append view (take n nodes) (new ∷ []) ∙ ap (λ l. l ++ view new ∷ []) (views-held region row arcs (take n nodes) h.held))

  pub merged-next : (paths : ℕ → List ℕ) → shown_below paths (map (node_view_by (held_row region) arcs) nodes2) ≡ merged_layer dp k width (shown_below paths (map (node_view_by (held_row old) arcs) nodes))
  merged-next paths =
      let show = seen paths row arcs in
      let show2 = seen paths (held_row region) arcs in
      let back : last ≡ map strip (drop n (map show nodes)) = sym (ap (map strip) (drop-map show n nodes) ∙ bare-seen paths row arcs (drop n nodes)) in
      let one : show2 new ≡ merged_node dp k (drop n (map show nodes)) =
      ap (λ r. record (merged_node dp k last) { row = r }) new-row ∙ (ap (merged_node dp k) back ∙ node-strip dp k (drop n (map show nodes))) in
      let front : map show2 (take n nodes) ≡ take n (map show nodes) =
      sym (below-seen paths (held_row region) arcs (take n nodes)) ∙ (ap (shown_below paths) (views-held region row arcs (take n nodes) h.held) ∙ (below-seen paths row arcs (take n nodes) ∙ sym (take-map show n nodes))) in
      below-seen paths (held_row region) arcs nodes2
      ∙ (ap (map show2) h.list
      ∙ (map-append show2 (take n nodes) (new ∷ [])
      ∙ (ap₂ (λ l m. l ++ m ∷ []) front one
      ∙ ap (merged_layer dp k width) (sym (below-seen paths row arcs nodes)))))

  pub merged-targets : (paths : ℕ → List ℕ) → staying (width - 1) ++ redirects ≡ merge_redirects dp k width (shown_below paths (map (node_view_by (held_row old) arcs) nodes))
  merged-targets paths =
      let show = seen paths row arcs in
      h.targets ∙ (ap (merge_redirects dp k width) (sym (bare-seen paths row arcs nodes))
      ∙ (redirects-strip dp k width (map show nodes) ∙ ap (merge_redirects dp k width) (sym (below-seen paths row arcs nodes))))

  pub merged-ranks : Each (IsRanked dp k) (map (node_view_by (held_row old) arcs) nodes) → Each (IsRanked dp k) (map (node_view_by (held_row region) arcs) nodes2)
  merged-ranks ranked =
      let seen_by = node_view_by row arcs in
      subst (Each (IsRanked dp k)) (sym views)
      (Each-append (IsRanked dp k) (map seen_by (take n nodes)) (view new ∷ [])
      (subst (Each (IsRanked dp k)) (take-map seen_by n nodes) (each-take (IsRanked dp k) n (map seen_by nodes) ranked))
      (record { state = subst (IsStateOf dp k) (sym new-row) h.state; rank = ap (dp.rank k) (sym new-row); hash = ap (dp.hash k) (sym new-row) }, tt))

  pub merged-ranked : Each (IsNodeOf dp k) (map (node_view_by (held_row old) arcs) nodes) → Each (IsRanked dp k) (map (node_view_by (held_row region) arcs) nodes2)
  merged-ranked all =
      merged-ranks (Each-then (IsNodeOf dp k) (IsRanked dp k) (map (node_view_by row arcs) nodes) (λ node g. record { state = g.state; rank = g.rank; hash = g.hash }) all)

  pub merged-lie : {X : Type 0} (stored : List X) → Each (HasArcsIn stored) nodes → Each (HasArcsIn stored) nodes2
  merged-lie stored lie = subst (Each (HasArcsIn stored)) (sym h.list) (Each-append (HasArcsIn stored) (take n nodes) (new ∷ []) (each-take (HasArcsIn stored) n nodes lie) (omega arith, tt))

  pub merged-few : 1 ≤ width → width < length nodes → length nodes2 ≤ length nodes
  merged-few positive wide =
      let is = ap length h.list ∙ length-append (take n nodes) (new ∷ []) in
      let front = length-take-le n nodes (omega arith) in
      omega arith

  pub merged-held : AreHeld region (map (node_view_by (held_row region) arcs) nodes2)
  merged-held =
      let IsOwn : ℕ → Type 0 = λ p. IsRow region p (held_row region p) in
      let places = ap rows_in h.list ∙ map-append (λ (node : Node). node.row) (take n nodes) (new ∷ []) in
      rows-held region (held_row region) arcs nodes2
      (subst (HaveRows region (held_row region)) (sym places)
      (Each-append IsOwn (rows_in (take n nodes)) (h.place ∷ []) (rows-own region row (rows_in (take n nodes)) h.held) (subst (IsRow region h.place) (sym new-row) h.merged, tt)))
