-- The ways to a layer of which all but the first ones are merged at once.
use Rattle.std.specs.Prelude.{◌≡◌, ◌≢◌, ℕ, ◌-◌, ◌<◌, ◌≤◌, ℤ, pos, Bool, false, List, [], ◌∷◌, ◌++◌, length, map, take, drop, Option, Some, None, IsPermutation, IsSortedBy}
use Rattle.dp_model.specs.Dp.{Dp}
use Rattle.dp_model.specs.Gaps.{IsStateOf}
use Rattle.dp_model.specs.Laws.{MergesInAnyOrder}
use Rattle.dp_model.specs.Lists.{Each}
use Rattle.dp_laws.specs.Diagrams.Nodes.{DdNode}
use Rattle.dp_laws.specs.Pairs.{EachTwo}
use Rattle.dp_laws.specs.Rules.Reducing.{row_of_all}
use Rattle.layer_candidates.specs.declared.key.Key.{Key}
use Rattle.layer_candidates.specs.declared.way.Way.{Way}
use Rattle.layer_candidates.specs.HeldRows.{held_row, AreLive, HasExchanged, HasLeft}
use Rattle.layer_candidates.specs.KeyOrder.{goes_before, key_rows}
use Rattle.layer_candidates.specs.Pruning.{IsKeyIn, unstruck_keys}
use Rattle.layer_candidates.specs.Ways.{IsNearly, rows_of}
use Rattle.row_region.specs.Region.{RegionView, IsRow}
use Rattle.layer_nodes.specs.declared.node.Node.{Node}
use Rattle.layer_nodes.specs.declared.routing.Route.{Route}
use Rattle.layer_nodes.specs.Expanding.{key_in, mark_at, node_of}
use Rattle.layer_nodes.specs.Holding.{HaveRows}
use Rattle.layer_nodes.specs.Leading.{bare}
use Rattle.layer_nodes.specs.Merging.{IsStateIn, merged_at}
use Rattle.layer_nodes.specs.Routing.{nowhere, route_at}
use Rattle.layer_nodes.specs.Stored.{rows_in}

-- what a key tells of a node
abbrev pub key_node : Key → Node
key_node key = record { value = key.value; rank = key.rank; hash = 0; suffix = None; parent = None; row = key.row; decision = 0; first_arc = 0; arcs = 0; exact = false }

-- the keys as nodes of which only the row and the value are known
abbrev pub bare_keys : (ℕ → List ℤ) → List Key → List DdNode
bare_keys held keys = map (bare held) (map key_node keys)

-- the region has the row of the key, which is a state of the layer at depth k, with its rank, and the value leaves room for gaps and rough bounds
pub record IsKeyNode (dp : Dp) (k : ℕ) (region : RegionView) (key : Key) : Type 0 where
  pub row : IsStateIn dp k region key.row
  pub ranked : key.rank ≡ dp.rank k (held_row region key.row)
  pub near : IsNearly key.value

-- the keys are those of different ways to states of the layer at depth k, whose rows the region has
pub record AreListed (dp : Dp) (k : ℕ) (region : RegionView) (ways : List Way) (keys : List Key) : Type 0 where
  pub known : Each (IsKeyIn dp k region) keys
  pub live : AreLive region (key_rows keys)
  pub within : Each (λ (key : Key). key.place < length ways) keys
  pub apart : EachTwo (λ (a b : Key). a.place ≢ b.place) keys
  pub few : length keys ≤ length ways

-- none of the keys' ways is exact
abbrev pub AreInexact : List Bool → List Key → Type 0
AreInexact marks keys = Each (λ (key : Key). mark_at marks key.place ≡ false) keys

-- the route to the number of a way
abbrev pub route_to : ℕ → Route
route_to place = record { target = Some place; longer = pos 0 }

-- the route to the merged node at the place, lengthened by the gap, or none where there is no gap
abbrev pub merged_route : ℕ → Option ℤ → Route
merged_route place None = nowhere
merged_route place (Some gap) = record { target = Some place; longer = gap }

-- the row that the rows of the keys are merged into
abbrev pub row_of_keys : Dp → ℕ → (ℕ → List ℤ) → List Key → List ℤ
row_of_keys dp k held keys = row_of_all dp k (bare_keys held keys)

-- each of the first n of the keys leads to its place
abbrev pub LeadHere : ℕ → List Key → List Route → Type 0
LeadHere n keys routes = (j : ℕ) → j < n → route_at routes (key_in keys j).place ≡ route_to j

-- each of the keys leads to the merged node at the place, lengthened by the gap from the row
abbrev pub LeadToMerged : Dp → ℕ → (ℕ → List ℤ) → List ℤ → ℕ → List Key → List Route → Type 0
LeadToMerged dp k held row place keys routes = Each (λ (key : Key). route_at routes key.place ≡ merged_route place (dp.gap k row (held key.row))) keys

-- the keys but for the first n were merged into a node, whose row the region has in place of theirs, and their routes lead to it
pub record HasMergedKeys (dp : Dp) (k n : ℕ) (old : RegionView) (ways : List Way) (marks : List Bool) (keys : List Key) (new : RegionView) (routes : List Route) (nodes : List Node) : Type 0 where
  pub place : ℕ
  pub list : nodes ≡ map (node_of ways marks) (take n keys) ++ merged_at dp k place (bare_keys (held_row old) (drop n keys)) ∷ []
  pub held : HaveRows new (held_row old) (key_rows (take n keys))
  pub merged : IsRow new place (row_of_keys dp k (held_row old) (drop n keys))
  pub state : IsStateOf dp k (row_of_keys dp k (held_row old) (drop n keys))
  pub exchanged : HasExchanged old (key_rows keys) new (rows_in nodes)
  pub numbered : LeadHere n keys routes
  pub lead : LeadToMerged dp k (held_row old) (row_of_keys dp k (held_row old) (drop n keys)) n (drop n keys) routes
  pub others : (p : ℕ) → Each (λ (key : Key). key.place ≢ p) keys → route_at routes p ≡ nowhere

-- the first n of the keys stand as in the reduction order, when the rest is put into it
abbrev pub AreFirst : (ℕ → List ℤ) → ℕ → List Key → Type 0
AreFirst held n keys = (rest : List Key) → IsPermutation (drop n keys) rest → IsSortedBy (goes_before held) rest → IsSortedBy (goes_before held) (take n keys ++ rest)

-- the ways of the layer at depth k that are not struck became nodes, but for the first ones merged into one
pub record AreReduced (dp : Dp) (k : ℕ) (t : Option ℤ) (width : ℕ) (region : RegionView) (ways : List Way) (marks : List Bool) (new : RegionView) (routes : List Route) (nodes : List Node) : Type 0 where
  pub keys : List Key
  pub left : RegionView
  pub all : IsPermutation (unstruck_keys dp k t region ways) keys
  pub stay : HasLeft region (rows_of ways) left (key_rows keys)
  pub first : AreFirst (held_row left) (width - 1) keys
  pub wide : width < length keys
  pub inexact : AreInexact marks keys
  pub free : MergesInAnyOrder dp
  pub within : Each (λ (key : Key). key.place < length routes) keys
  pub merged : HasMergedKeys dp k (width - 1) left ways marks keys new routes nodes
