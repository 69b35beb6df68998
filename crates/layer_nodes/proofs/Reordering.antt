-- What was merged at once is the layer with all its keys in order, merged.
use Rattle.std.proofs.Common.{ℕ, ◌+◌, ◌-◌, ◌*◌, ◌<◌, ◌≤◌, ◌≡◌, Bool, true, false, List, [], length, map, Option, ℤ, IsSome, refl}
use Rattle.dp_model.specs.Dp.{Dp}
use Rattle.dp_model.specs.Laws.{IsLawful}
use Rattle.dp_model.specs.Lists.{Each}
use Rattle.dp_laws.specs.declared.arc.DdArc.{DdArc}
use Rattle.dp_laws.specs.Diagrams.Nodes.{DdNode}
use Rattle.dp_laws.specs.Restricted.Extensions.{candidates, all_joined}
use Rattle.layer_candidates.specs.declared.way.Way.{Way}
use Rattle.layer_candidates.specs.HeldRows.{held_row, AreLive, HasExchanged, HasLeft}
use Rattle.layer_candidates.specs.Members.{members_as}
use Rattle.layer_candidates.specs.Ways.{rows_of, way_row, all_reached, AreDistinct}
use Rattle.layer_candidates.proofs.HeldRows.{exchange-then}
use Rattle.row_region.specs.Region.{RegionView}
use Rattle.layer_nodes.specs.declared.node.Node.{Node}
use Rattle.layer_nodes.specs.declared.routing.Route.{Route}
use Rattle.layer_nodes.specs.declared.routing.StoredArc.{StoredArc}
use Rattle.layer_nodes.specs.Expanding.{trials_of, all_spanned, AreTried, members_from, IsExpanded}
use Rattle.layer_nodes.specs.Nodes.{shown_layer}
use Rattle.layer_nodes.specs.Reducing.{AreReduced}
use Rattle.layer_nodes.specs.Routing.{routed_arcs, to_ways}
use Rattle.layer_nodes.specs.Sifting.{expand_sifted, expanded_within, AreSifted}
use Rattle.layer_nodes.specs.Stored.{node_view_by, rows_in}
use Rattle.layer_nodes.proofs.Expanded.{nodes-unmerged}
use Rattle.layer_nodes.proofs.InFull.{plain_routes, full-sifted, full-left, full-rerouted}
use Rattle.layer_nodes.proofs.MergedInFull.{full-row, full-merged, full-wide, full-inexact}
use Rattle.layer_nodes.proofs.Reduced.{whole-reduced, reduced-exchanged, reduced-wide, reduced-inexact}
use Rattle.layer_nodes.proofs.Reordered.{in_full, nodes_in_full, last_redirects, IsReordered}
use Rattle.layer_nodes.proofs.SiftedLayers.{whole-sifted}

-- the layer with all its keys in order
pub reordered : (dp : Dp) (k : ℕ) (t : Option ℤ) (width : ℕ) (region : RegionView) (ways : List Way) (marks : List Bool) (new : RegionView) (routes : List Route) (nodes : List Node)
    → IsLawful dp → AreDistinct dp k (way_row region ways) ways → AreLive region (rows_of ways)
    → (r : AreReduced dp k t width region ways marks new routes nodes) → IsReordered dp k t width region r.left ways marks new routes nodes
reordered dp k t width region ways marks new routes nodes laws distinct live r =
    let held = held_row r.left in
    let all = nodes_in_full held ways marks (width - 1) r.keys in
    record {
      all = all;
      plain = plain_routes (in_full held (width - 1) r.keys) (length routes);
      redirects = last_redirects dp k held (width - 1) all;
      sifted = full-sifted dp k t width region ways marks new routes nodes r live;
      stay = full-left dp k t width region ways marks new routes nodes r live;
      merged = full-merged dp k t width region ways marks new routes nodes r laws distinct live;
      rerouted = full-rerouted dp k t width region ways marks new routes nodes r (full-row dp k t width region ways marks new routes nodes r laws distinct live);
      wide = full-wide dp k t width region ways marks new routes nodes r;
      inexact = full-inexact dp k t width region ways marks new routes nodes r;
    }

-- ---- the layer without what is struck, as it is or merged

module _ (dp : Dp) (laws : IsLawful dp) (k : ℕ) (t : Option ℤ) (low : k < dp.vars) (region : RegionView) (nodes : List Node) (mid new : RegionView) (ways : List Way)
    (marks : List Bool) (arcs : List StoredArc) (routes : List Route) (nodes2 below : List Node) (distinct : AreDistinct dp (k + 1) (way_row mid ways) ways)
    (list : (paths : ℕ → List ℕ) → all_reached paths (way_row mid ways) ways ≡ all_joined [] (candidates dp k (members_as paths region (members_from 0 nodes))))
    (tried : AreTried dp k (way_row mid ways) (length ways) (trials_of dp k (held_row region) nodes) marks (to_ways arcs)) (spans : nodes2 ≡ all_spanned dp k (held_row region) 0 nodes)
    (few : length ways ≤ length nodes * dp.choices k) (few_arcs : length arcs ≤ length nodes * dp.choices k)
    (width : ℕ) (live : AreLive mid (rows_of ways)) where
  module _ (r : AreReduced dp (k + 1) t width mid ways marks new routes below) where
    abbrev full : IsReordered dp (k + 1) t width mid r.left ways marks new routes below
    full = reordered dp (k + 1) t width mid ways marks new routes below laws distinct live r

    merged-whole : 1 ≤ width → IsExpanded (expanded_within true dp k t width) dp k (held_row region) nodes nodes2 (routed_arcs routes arcs) (held_row new) below
    merged-whole positive = whole-reduced dp k t low region nodes mid r.left new ways marks arcs routes nodes2 below distinct list tried spans few few_arcs width full positive

    merged-exchanged : HasExchanged mid (rows_of ways) new (rows_in below)
    merged-exchanged = reduced-exchanged dp (k + 1) t width mid r.left ways marks new routes below full

    -- the layer that is merged is wider
    pub within-wide : (before : List DdArc) (paths : ℕ → List ℕ) → width < length (expand_sifted dp k t (shown_layer paths (map (node_view_by (held_row region) before) nodes))).next
    within-wide = reduced-wide dp k t low region nodes mid r.left new ways marks arcs routes nodes2 below distinct list tried spans few few_arcs width full

    -- and none of its nodes is exact
    pub within-inexact : (before : List DdArc) (paths : ℕ → List ℕ) → Each (λ (n : DdNode). n.exact ≡ false) (expand_sifted dp k t (shown_layer paths (map (node_view_by (held_row region) before) nodes))).next
    within-inexact = reduced-inexact dp k t low region nodes mid r.left new ways marks arcs routes nodes2 below distinct list tried spans few few_arcs width full

  -- the extended layer is put in order, or merged
  pub whole-within : (b : Bool) → 1 ≤ width → (b ≡ false → AreSifted dp (k + 1) t mid ways marks routes below) → (b ≡ false → HasLeft mid (rows_of ways) new (rows_in below))
      → (b ≡ true → AreReduced dp (k + 1) t width mid ways marks new routes below)
      → IsExpanded (expanded_within b dp k t width) dp k (held_row region) nodes nodes2 (routed_arcs routes arcs) (held_row new) below
  whole-within true positive sifted left reduced = merged-whole (reduced refl) positive
  whole-within false positive sifted left reduced = whole-sifted dp k t low region nodes mid new ways marks arcs routes nodes2 below distinct list tried spans few few_arcs (sifted refl) (left refl)

  -- the rows of the ways were exchanged for those of the nodes
  pub exchanged-within : (b : Bool) → HasExchanged region [] mid (rows_of ways) → (b ≡ false → HasLeft mid (rows_of ways) new (rows_in below))
      → (b ≡ true → AreReduced dp (k + 1) t width mid ways marks new routes below) → HasExchanged region [] new (rows_in below)
  exchanged-within true put left reduced = exchange-then region mid new [] (rows_of ways) (rows_in below) put (merged-exchanged (reduced refl))
  exchanged-within false put left reduced = exchange-then region mid new [] (rows_of ways) (rows_in below) put (left refl).exchanged

-- nodes that are not merged have parents
pub sifted-unmerged : (dp : Dp) (k : ℕ) (t : Option ℤ) (region : RegionView) (ways : List Way) (marks : List Bool) (routes : List Route) (nodes : List Node) → AreSifted dp k t region ways marks routes nodes → Each (λ (n : Node). IsSome n.parent) nodes
sifted-unmerged dp k t region ways marks routes nodes h = nodes-unmerged ways marks h.keys nodes h.nodes_are
