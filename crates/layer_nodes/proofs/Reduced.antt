-- A layer of which all but the first ways were merged at once is that of the rules, whatever the paths are.
use Rattle.std.proofs.Common.{◌≡◌, ℕ, zero, suc, ◌+◌, ◌-◌, ◌*◌, ◌<◌, ◌≤◌, ℤ, pos, Bool, true, false, List, [], ◌∷◌, ◌++◌, length, map, drop, Option, sym, ◌∙◌, ap, subst, arith}
use Rattle.std.proofs.lemmas.Int.{ints}
use Rattle.std.proofs.lemmas.List.{length-map}
use Rattle.dp_model.specs.Dp.{Dp}
use Rattle.dp_model.specs.Lists.{Each}
use Rattle.dp_model.specs.Numbers.{IsFar}
use Rattle.dp_model.proofs.Members.{Each-map}
use Rattle.dp_laws.specs.declared.arc.DdArc.{DdArc}
use Rattle.dp_laws.specs.Diagrams.Nodes.{DdNode}
use Rattle.dp_laws.specs.Restricted.Extensions.{candidates, all_joined}
use Rattle.dp_laws.specs.Rules.Redirects.{with_redirected}
use Rattle.dp_laws.specs.Rules.Reducing.{staying, merged_layer, merge_redirects}
use Rattle.dp_laws.proofs.Lists.{each-take}
use Rattle.layer_candidates.specs.declared.way.Way.{Way}
use Rattle.layer_candidates.specs.HeldRows.{held_row, HasExchanged}
use Rattle.layer_candidates.specs.Members.{members_as}
use Rattle.layer_candidates.specs.Ways.{rows_of, way_row, all_reached, AreDistinct}
use Rattle.layer_candidates.proofs.HeldRows.{exchange-then}
use Rattle.row_region.specs.Region.{RegionView}
use Rattle.layer_nodes.specs.declared.node.Node.{Node}
use Rattle.layer_nodes.specs.declared.routing.Route.{Route}
use Rattle.layer_nodes.specs.declared.routing.StoredArc.{StoredArc}
use Rattle.layer_nodes.specs.Expanding.{trials_of, all_spanned, AreTried, members_from, IsExpanded}
use Rattle.layer_nodes.specs.Nodes.{shown_layer}
use Rattle.layer_nodes.specs.Routing.{routed, routed_arcs, to_ways, IsPlain}
use Rattle.layer_nodes.specs.Sifting.{expand_sifted, expanded_within}
use Rattle.layer_nodes.specs.Steps.{MayBeLengthened}
use Rattle.layer_nodes.specs.Stored.{node_view_by, rows_in}
use Rattle.layer_nodes.proofs.MergedLayers.{merged-next, merged-targets, merged-ranks, merged-lie, merged-few}
use Rattle.layer_nodes.proofs.Reordered.{IsReordered}
use Rattle.layer_nodes.proofs.Routed.{plain-at, stored-lie, routed-lie}
use Rattle.layer_nodes.proofs.Shown.{views-redirected, shown-redirected, bare-redirected, seen, below-seen}
use Rattle.layer_nodes.proofs.SiftedLayers.{whole-sifted}

-- ---- arcs along plain routes may be lengthened

none-far : (z : ℤ) → z ≡ pos 0 → IsFar z
none-far z e = record { low = omega (arith, ints); high = omega (arith, ints) }

each-drop : {X : Type 0} (P : X → Type 0) (n : ℕ) (xs : List X) → Each P xs → Each P (drop n xs)
each-drop P zero xs h = h
each-drop P (suc n) [] h = tt
each-drop P (suc n) (x ∷ xs) h = each-drop P n xs h.1

module _ (routes : List Route) (plain : Each IsPlain routes) where
  plain-far : (arcs : List StoredArc) → Each (λ (arc : DdArc). IsFar arc.longer) (routed_arcs routes arcs)
  plain-far [] = tt
  plain-far (arc ∷ arcs) = (none-far (routed routes arc).longer (plain-at routes arc.way plain), plain-far arcs)

  plain-lengthened : (row : ℕ → List ℤ) (arcs : List StoredArc) (nodes : List Node) → Each MayBeLengthened (map (node_view_by row (routed_arcs routes arcs)) nodes)
  plain-lengthened row arcs [] = tt
  plain-lengthened row arcs (node ∷ nodes) = (
    each-take (λ (arc : DdArc). IsFar arc.longer) node.arcs (drop node.first_arc (routed_arcs routes arcs))
        (each-drop (λ (arc : DdArc). IsFar arc.longer) node.first_arc (routed_arcs routes arcs) (plain-far arcs)),
    plain-lengthened row arcs nodes,
  )

-- ---- the rows

-- the rows of the ways were exchanged for those of the nodes
pub reduced-exchanged : (dp : Dp) (k : ℕ) (t : Option ℤ) (width : ℕ) (mid left : RegionView) (ways : List Way) (marks : List Bool) (new : RegionView) (routes : List Route) (below : List Node)
    → IsReordered dp k t width mid left ways marks new routes below → HasExchanged mid (rows_of ways) new (rows_in below)
reduced-exchanged dp k t width mid left ways marks new routes below h = exchange-then mid left new (rows_of ways) (rows_in h.all) (rows_in below) h.stay.exchanged h.merged.exchanged

-- ---- the whole

module _ (dp : Dp) (k : ℕ) (t : Option ℤ) (low : k < dp.vars) (region : RegionView) (nodes : List Node) (mid left new : RegionView) (ways : List Way)
    (marks : List Bool) (arcs : List StoredArc) (routes : List Route) (nodes2 below : List Node) (distinct : AreDistinct dp (k + 1) (way_row mid ways) ways)
    (list : (paths : ℕ → List ℕ) → all_reached paths (way_row mid ways) ways ≡ all_joined [] (candidates dp k (members_as paths region (members_from 0 nodes))))
    (tried : AreTried dp k (way_row mid ways) (length ways) (trials_of dp k (held_row region) nodes) marks (to_ways arcs)) (spans : nodes2 ≡ all_spanned dp k (held_row region) 0 nodes)
    (few : length ways ≤ length nodes * dp.choices k) (few_arcs : length arcs ≤ length nodes * dp.choices k)
    (width : ℕ) (h : IsReordered dp (k + 1) t width mid left ways marks new routes below) where
  abbrev layer_of : List DdArc → (ℕ → List ℕ) → List DdNode
  layer_of before paths = shown_layer paths (map (node_view_by (held_row region) before) nodes)

  abbrev plain_arcs : List DdArc
  plain_arcs = routed_arcs h.plain arcs

  abbrev led_arcs : List DdArc
  led_arcs = routed_arcs routes arcs

  -- the layer with all its keys in order
  full : IsExpanded (expand_sifted dp k t) dp k (held_row region) nodes nodes2 plain_arcs (held_row left) h.all
  full = whole-sifted dp k t low region nodes mid left ways marks arcs h.plain nodes2 h.all distinct list tried spans few few_arcs h.sifted h.stay

  above-reduced : (before : List DdArc) (paths : ℕ → List ℕ) → shown_layer paths (map (node_view_by (held_row region) led_arcs) nodes2) ≡ (expanded_within true dp k t width (layer_of before paths)).above
  above-reduced before paths =
      let ls = staying (width - 1) ++ h.redirects in
      let views = map (node_view_by (held_row region) plain_arcs) nodes2 in
      let targets : ls ≡ merge_redirects dp (k + 1) width (expand_sifted dp k t (layer_of before paths)).next =
      merged-targets dp (k + 1) width left h.all new below h.redirects before h.merged paths ∙ ap (merge_redirects dp (k + 1) width) (full.next_is before before paths) in
      ap (shown_layer paths) (views-redirected ls (held_row region) h.plain routes arcs nodes2 h.rerouted (plain-lengthened h.plain h.sifted.plain (held_row region) arcs nodes2))
      ∙ (shown-redirected paths 0 ls views
      ∙ (ap (with_redirected ls) (full.above_is before paths)
      ∙ ap (λ r. with_redirected r (expand_sifted dp k t (layer_of before paths)).above) targets))

  -- the layer is expanded and merged to the width
  pub whole-reduced : 1 ≤ width → IsExpanded (expanded_within true dp k t width) dp k (held_row region) nodes nodes2 led_arcs (held_row new) below
  whole-reduced positive = record {
    above_is = above-reduced;
    next_is = λ before any paths. merged-next dp (k + 1) width left h.all new below h.redirects any h.merged paths ∙ ap (merged_layer dp (k + 1) width) (full.next_is before any paths);
    rest = λ before. bare-redirected (held_row region) plain_arcs led_arcs nodes2 ∙ full.rest before;
    places = full.places;
    ranked = λ any. merged-ranks dp (k + 1) width left h.all new below h.redirects any h.merged (full.ranked any);
    arcs_lie = routed-lie routes arcs nodes2 (stored-lie h.plain arcs nodes2 full.arcs_lie);
    bare = λ any. merged-lie dp (k + 1) width left h.all new below h.redirects any h.merged any (full.bare any);
    same = full.same;
    few = (let less = merged-few dp (k + 1) width left h.all new below h.redirects plain_arcs h.merged positive h.wide in let all = full.few in omega arith);
    few_arcs = (let size = length-map arcs (routed routes) in omega arith);
  }

  -- the layer that is merged is wider
  pub reduced-wide : (before : List DdArc) (paths : ℕ → List ℕ) → width < length (expand_sifted dp k t (layer_of before paths)).next
  reduced-wide before paths =
      let wide = h.wide in
      let size : length (expand_sifted dp k t (layer_of before paths)).next ≡ length h.all =
      ap length (sym (full.next_is before before paths) ∙ below-seen paths (held_row left) before h.all) ∙ length-map h.all (seen paths (held_row left) before) in
      omega arith

  -- and none of its nodes is exact
  pub reduced-inexact : (before : List DdArc) (paths : ℕ → List ℕ) → Each (λ (n : DdNode). n.exact ≡ false) (expand_sifted dp k t (layer_of before paths)).next
  reduced-inexact before paths =
      subst (Each (λ (n : DdNode). n.exact ≡ false)) (sym (below-seen paths (held_row left) before h.all) ∙ full.next_is before before paths)
      (Each-map (seen paths (held_row left) before) (λ (n : DdNode). n.exact ≡ false) h.all h.inexact)
