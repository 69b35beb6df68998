-- A layer and the next one after the nodes of the first were expanded, as they are seen.
use Rattle.std.proofs.Common.{◌≡◌, ℕ, ◌*◌, ◌≤◌, ℤ, List, [], ◌∷◌, length, map, Some, IsSome, sym, ◌∙◌, ap, subst, arith}
use Rattle.std.proofs.lemmas.List.{length-map}
use Rattle.dp_model.specs.Dp.{Dp}
use Rattle.dp_model.specs.Laws.{IsLawful}
use Rattle.dp_model.specs.Lists.{Each}
use Rattle.dp_laws.specs.declared.arc.DdArc.{DdArc}
use Rattle.dp_laws.specs.Diagrams.Nodes.{DdNode}
use Rattle.dp_laws.specs.Rules.Compiling.{TwoLayers}
use Rattle.layer_candidates.specs.HeldRows.{held_row}
use Rattle.layer_candidates.proofs.HeldRows.{held-is}
use Rattle.row_region.specs.Region.{RegionView, IsLive}
use Rattle.layer_nodes.specs.declared.node.Node.{Node}
use Rattle.layer_nodes.specs.declared.routing.Route.{Route}
use Rattle.layer_nodes.specs.declared.routing.StoredArc.{StoredArc}
use Rattle.layer_nodes.specs.Expanding.{IsExpanded}
use Rattle.layer_nodes.specs.Holding.{AreHeld, HaveRows, places_of}
use Rattle.layer_nodes.specs.Nodes.{NodeView, shown_layer, shown_below, without_arcs}
use Rattle.layer_nodes.specs.Routing.{routed_arcs}
use Rattle.layer_nodes.specs.Steps.{IsRanked}
use Rattle.layer_nodes.specs.Stored.{node_view_by, rows_in, HasLayer}
use Rattle.layer_nodes.proofs.Holding.{held-rows, views-held}
use Rattle.layer_nodes.proofs.Routed.{stored-lie}
use Rattle.layer_nodes.proofs.Shown.{places-seen}

-- whatever the rows are found by that the region has
module _ (rule : List DdNode → TwoLayers) (dp : Dp) (k : ℕ) (region : RegionView) (row : ℕ → List ℤ) (before : List DdArc) (items : List Node) (layer : List NodeView) (is : map (node_view_by row before) items ≡ layer)
    (held : AreHeld region layer) (olds : List Node) (value : olds ≡ items) (new : List Node) (arcs : List DdArc) (rows : ℕ → List ℤ) (below : List Node) (h : IsExpanded rule dp k (held_row region) olds new arcs rows below) where
  have : HaveRows region row (rows_in olds)
  have = subst (λ l. HaveRows region row (rows_in l)) (sym value) (held-rows region row before items (subst (AreHeld region) (sym is) held))

  news-same : map (node_view_by (held_row region) arcs) new ≡ map (node_view_by row arcs) new
  news-same = views-held region row arcs new (subst (HaveRows region row) (sym h.places) have)

  -- the nodes that were expanded
  pub layer-is : map (node_view_by (held_row region) before) olds ≡ layer
  layer-is = views-held region row before olds have ∙ (ap (map (node_view_by row before)) value ∙ is)

  pub above-is : (paths : ℕ → List ℕ) → shown_layer paths (map (node_view_by row arcs) new) ≡ (rule (shown_layer paths layer)).above
  above-is paths = ap (shown_layer paths) (sym news-same) ∙ (h.above_is before paths ∙ ap (λ l. (rule (shown_layer paths l)).above) layer-is)

  pub next-is : (paths : ℕ → List ℕ) (any : List DdArc) → shown_below paths (map (node_view_by rows any) below) ≡ (rule (shown_layer paths layer)).next
  next-is paths any = h.next_is before any paths ∙ ap (λ l. (rule (shown_layer paths l)).next) layer-is

  pub rest-is : map without_arcs (map (node_view_by row arcs) new) ≡ map without_arcs layer
  rest-is = ap (map without_arcs) (sym news-same) ∙ (h.rest before ∙ ap (map without_arcs) layer-is)

  pub places-are : places_of (map (node_view_by row arcs) new) ≡ places_of layer
  places-are = places-seen row arcs new ∙ (h.places ∙ (ap rows_in value ∙ (sym (places-seen row before items) ∙ ap places_of is)))

  -- the next layer as it lies in memory, where there was room for its nodes
  pub next-lies : (room : ℕ) (nodes : List Node) (nodes_room nodes_room2 : ℕ) (stored : List StoredArc) (routes : List Route) (arcs_room routes_room : ℕ)
      → HasLayer room nodes nodes_room stored arcs_room routes_room → length layer * dp.choices k ≤ room → nodes_room2 ≡ nodes_room → HasLayer room below nodes_room2 stored arcs_room routes_room
  next-lies room nodes nodes_room nodes_room2 stored routes arcs_room routes_room old enough same =
      let count : length olds ≡ length layer = ap length value ∙ (sym (length-map items (node_view_by row before)) ∙ ap length is) in
      let hold : length olds * dp.choices k ≤ room = subst (λ n. n * dp.choices k ≤ room) (sym count) enough in
      let few = h.few in
      let nodes_hold = old.nodes_hold in
      record {
        small = old.small;
        fits = omega arith;
        nodes_hold = omega arith;
        few_arcs = old.few_arcs;
        routes_hold = old.routes_hold;
        arcs_lie = stored-lie routes stored below (h.bare (routed_arcs routes stored));
      }

-- nodes in memory are seen with their parents
pub unmerged-seen : (row : ℕ → List ℤ) (arcs : List DdArc) (nodes : List Node) → Each (λ (n : Node). IsSome n.parent) nodes → Each (λ (n : NodeView). IsSome n.parent) (map (node_view_by row arcs) nodes)
unmerged-seen row arcs [] h = tt
unmerged-seen row arcs (node ∷ nodes) h = (h.0, unmerged-seen row arcs nodes h.1)

-- the nodes below, whose rows were put into the region, are held there
pub ranked-held : (dp : Dp) → IsLawful dp → (k : ℕ) (region : RegionView) (arcs : List DdArc) (nodes : List Node) → region.words ≡ dp.words → Each (IsLive region) (rows_in nodes)
    → Each (IsRanked dp k) (map (node_view_by (held_row region) arcs) nodes) → AreHeld region (map (node_view_by (held_row region) arcs) nodes)
ranked-held dp laws k region arcs [] words live ranked = tt
ranked-held dp laws k region arcs (node ∷ nodes) words live ranked =
    let is = held-is region node.row live.0.0 live.0.1 in (
      record { found = live.0.1 ∙ ap (λ (r : List ℤ). Some (Some r)) (sym is); size = laws.sizes.cells k (held_row region node.row) ranked.0.state ∙ sym words },
      ranked-held dp laws k region arcs nodes words live.1 ranked.1,
    )
