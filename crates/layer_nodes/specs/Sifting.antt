-- A layer without the nodes that are struck.
use Rattle.std.specs.Prelude.{◌≡◌, ◌≢◌, ℕ, ◌+◌, ◌<◌, ℤ, pos, Bool, true, false, not, cond, List, [], ◌∷◌, length, map, filter, Option, Some, None, IsPermutation, IsSortedBy}
use Rattle.dp_model.specs.Dp.{Dp}
use Rattle.dp_model.specs.Lists.{Each}
use Rattle.dp_laws.specs.Diagrams.Nodes.{DdNode}
use Rattle.dp_laws.specs.Rules.Compiling.{TwoLayers, expand, merge_rest}
use Rattle.dp_laws.specs.Rules.Pruning.{is_struck}
use Rattle.dp_laws.specs.Rules.Redirects.{Redirect, with_redirected}
use Rattle.layer_candidates.specs.declared.key.Key.{Key}
use Rattle.layer_candidates.specs.declared.way.Way.{Way}
use Rattle.layer_candidates.specs.HeldRows.{held_row}
use Rattle.layer_candidates.specs.KeyOrder.{goes_before}
use Rattle.layer_candidates.specs.Pruning.{unstruck_keys}
use Rattle.row_region.specs.Region.{RegionView}
use Rattle.layer_nodes.specs.declared.node.Node.{Node}
use Rattle.layer_nodes.specs.declared.striking.Strikes.{Strikes}
use Rattle.layer_nodes.specs.declared.striking.Strikes.TheVariants.{AtMost, Nothing}
use Rattle.layer_nodes.specs.declared.routing.Route.{Route}
use Rattle.layer_nodes.specs.Expanding.{key_in, number_at, node_of, IsNumbered}
use Rattle.layer_nodes.specs.Routing.{IsPlain}

-- the nodes of the layer at depth k that are not struck
abbrev pub sifted_nodes : Dp → ℕ → Option ℤ → List DdNode → List DdNode
sifted_nodes dp k t nodes = filter (λ node. not (is_struck dp k t node)) nodes

-- where the arcs into each node go, when the place is that of the first node that stays
abbrev pub sift_redirects : Dp → ℕ → Option ℤ → ℕ → List DdNode → List (Option Redirect)
sift_redirects dp k t place [] = []
sift_redirects dp k t place (node ∷ nodes) =
    cond (is_struck dp k t node)
    (None ∷ sift_redirects dp k t place nodes)
    (Some (record { place = place; longer = pos 0 }) ∷ sift_redirects dp k t (place + 1) nodes)

-- the struck nodes of the next layer, at depth k, are left out
abbrev pub sifted : Dp → ℕ → Option ℤ → TwoLayers → TwoLayers
sifted dp k t two = record { above = with_redirected (sift_redirects dp k t 0 two.next) two.above; next = sifted_nodes dp k t two.next }

-- the layer at depth k with its arcs, and of the next one the nodes that are not struck
abbrev pub expand_sifted : Dp → ℕ → Option ℤ → List DdNode → TwoLayers
expand_sifted dp k t layer = sifted dp (k + 1) t (expand dp k layer)

-- the layer at depth k with its arcs, and the next one without what is struck
abbrev pub expanded_by : Strikes → Dp → ℕ → List DdNode → TwoLayers
expanded_by (AtMost t) dp k = expand_sifted dp k t
expanded_by Nothing dp k = expand dp k

-- the layer at depth k with its arcs, and the next one without what is struck, merged to the width or as it is
abbrev pub expanded_within : Bool → Dp → ℕ → Option ℤ → ℕ → List DdNode → TwoLayers
expanded_within true dp k t w layer = merge_rest dp (k + 1) w (expand_sifted dp k t layer)
expanded_within false dp k t w layer = expand_sifted dp k t layer

-- the ways of the layer at depth k that are not struck became the nodes, in the reduction order, and their routes lead to the
-- places of these; the region has the rows of all ways
pub record AreSifted (dp : Dp) (k : ℕ) (t : Option ℤ) (region : RegionView) (ways : List Way) (marks : List Bool) (routes : List Route) (nodes : List Node) : Type 0 where
  pub keys : List Key
  pub all : IsPermutation (unstruck_keys dp k t region ways) keys
  pub sorted : IsSortedBy (goes_before (held_row region)) keys
  pub numbered : (j : ℕ) → j < length keys → IsNumbered (length keys) keys routes (key_in keys j).place
  pub unnumbered : (p : ℕ) → Each (λ (key : Key). key.place ≢ p) keys → number_at routes p ≡ None
  pub plain : Each IsPlain routes
  pub nodes_are : nodes ≡ map (node_of ways marks) keys

-- the listed keys in the reduction order became the nodes, and the routes of their ways lead to the places of these; places have
-- these rows
pub record AreOrdered (held : ℕ → List ℤ) (listed : List Key) (ways : List Way) (marks : List Bool) (routes : List Route) (nodes : List Node) : Type 0 where
  pub keys : List Key
  pub all : IsPermutation listed keys
  pub sorted : IsSortedBy (goes_before held) keys
  pub numbered : (j : ℕ) → j < length keys → IsNumbered (length keys) keys routes (key_in keys j).place
  pub unnumbered : (p : ℕ) → Each (λ (key : Key). key.place ≢ p) keys → number_at routes p ≡ None
  pub plain : Each IsPlain routes
  pub nodes_are : nodes ≡ map (node_of ways marks) keys
