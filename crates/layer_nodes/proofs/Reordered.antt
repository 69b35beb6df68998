-- A layer of which all but the first keys were merged at once, as it would be if all its keys were put in order first.
use Rattle.std.proofs.Common.{ℕ, ◌-◌, ◌<◌, ◌≡◌, ℤ, Bool, false, List, ◌++◌, length, map, take, drop, Option}
use Rattle.dp_model.specs.Dp.{Dp}
use Rattle.dp_model.specs.Lists.{Each}
use Rattle.dp_laws.specs.Diagrams.Nodes.{DdNode}
use Rattle.dp_laws.specs.Rules.Redirects.{Redirect}
use Rattle.dp_laws.specs.Rules.Reducing.{staying, row_of_all, merge_redirect}
use Rattle.layer_candidates.specs.declared.key.Key.{Key}
use Rattle.layer_candidates.specs.declared.way.Way.{Way}
use Rattle.layer_candidates.specs.HeldRows.{HasLeft}
use Rattle.layer_candidates.specs.KeyOrder.{goes_before}
use Rattle.layer_candidates.specs.Ways.{rows_of}
use Rattle.layer_candidates.proofs.Sorted.{goes-strict}
use Rattle.row_region.specs.Region.{RegionView}
use Rattle.layer_nodes.specs.declared.node.Node.{Node}
use Rattle.layer_nodes.specs.declared.routing.Route.{Route}
use Rattle.layer_nodes.specs.Expanding.{node_of}
use Rattle.layer_nodes.specs.Leading.{bare}
use Rattle.layer_nodes.specs.Merging.{HasMerged}
use Rattle.layer_nodes.specs.Redirecting.{AreRerouted}
use Rattle.layer_nodes.specs.Sifting.{AreSifted}
use Rattle.layer_nodes.specs.Stored.{rows_in}
use Rattle.layer_nodes.proofs.InOrder.{put_all}

-- the keys, those after the first n of them put in order
abbrev pub in_full : (ℕ → List ℤ) → ℕ → List Key → List Key
in_full held n keys = take n keys ++ put_all (goes_before held) (goes-strict held) (drop n keys)

-- the nodes of these keys
abbrev pub nodes_in_full : (ℕ → List ℤ) → List Way → List Bool → ℕ → List Key → List Node
nodes_in_full held ways marks n keys = map (node_of ways marks) (in_full held n keys)

-- the nodes that are merged
abbrev pub last_of : (ℕ → List ℤ) → ℕ → List Node → List DdNode
last_of held n nodes = map (bare held) (drop n nodes)

-- where the arcs into them go
abbrev pub last_redirects : Dp → ℕ → (ℕ → List ℤ) → ℕ → List Node → List (Option Redirect)
last_redirects dp k held n nodes = map (merge_redirect dp k n (row_of_all dp k (last_of held n nodes))) (last_of held n nodes)

-- the layer with all its keys in order: its nodes with the routes to them, and how they are merged into what is there
pub record IsReordered (dp : Dp) (k : ℕ) (t : Option ℤ) (width : ℕ) (region left : RegionView) (ways : List Way) (marks : List Bool) (new : RegionView) (routes : List Route) (nodes : List Node) : Type 0 where
  pub all : List Node
  pub plain : List Route
  pub redirects : List (Option Redirect)
  pub sifted : AreSifted dp k t region ways marks plain all
  pub stay : HasLeft region (rows_of ways) left (rows_in all)
  pub merged : HasMerged dp k width left all new nodes redirects
  pub rerouted : AreRerouted (staying (width - 1) ++ redirects) plain routes
  pub wide : width < length all
  pub inexact : Each (λ (node : Node). node.exact ≡ false) all
