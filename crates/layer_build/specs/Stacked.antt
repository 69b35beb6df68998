-- How the layers of a diagram lie in memory, and how they are seen.
use Rattle.std.specs.Prelude.{◌≡◌, ℕ, zero, suc, ◌+◌, ◌-◌, ◌*◌, ◌<◌, ◌≤◌, nat_eq, max, cond, List, [], ◌∷◌, ◌++◌, length, map, IsTrue, slice_index_or}
use Rattle.dp_model.specs.Decisions.{below}
use Rattle.dp_model.specs.Dp.{Dp}
use Rattle.dp_model.specs.Lists.{Each}
use Rattle.dp_laws.specs.Diagrams.Nodes.{DdNode, path_below}
use Rattle.layer_candidates.specs.Beaming.{HasLayers}
use Rattle.layer_candidates.specs.HeldRows.{AreLive}
use Rattle.layer_candidates.specs.declared.beam.Beam.{Beam}
use Rattle.layer_nodes.specs.Nodes.{NodeView, LayerView, shown_layer}
use Rattle.layer_nodes.specs.Holding.{AreHeld, places_of}
use Rattle.layer_nodes.specs.Stored.{Room}
use Rattle.layer_build.specs.declared.stack.Stack.{Stack}

-- no layer
abbrev pub no_layer : LayerView
no_layer = record { words = 0; nodes = []; nodes_room = 0; arcs_room = 0 }

-- a layer without nodes, with these rooms
abbrev pub empty_layer : ℕ → ℕ → ℕ → LayerView
empty_layer words nodes arcs = record { words = words; nodes = []; nodes_room = nodes; arcs_room = arcs }

-- the place of the layer at the depth: the one just below the first has its own, after those of all depths
abbrev pub place_of : ℕ → ℕ → ℕ → ℕ
place_of vars first depth = cond (nat_eq depth (first + 1)) vars depth

-- the place of the layer above the last one: an empty layer stands above the first
abbrev pub place_above : ℕ → ℕ → ℕ → ℕ
place_above vars first last = cond (nat_eq last first) (vars + 1) (place_of vars first (last - 1))

-- the layer at a depth
abbrev pub layer_in : Stack → ℕ → LayerView
layer_in s depth = cond (nat_eq depth s.last) s.newest (slice_index_or s.layers.items (place_of s.vars s.first depth) no_layer)

-- the nodes of the layer at the depth
abbrev pub nodes_in : Stack → ℕ → List NodeView
nodes_in s depth = (layer_in s depth).nodes

-- there is a layer at the depth
pub record HasDepth (s : Stack) (depth : ℕ) : Type 0 where
  pub first : s.first ≤ 1024
  pub place : place_of s.vars s.first depth < length s.layers.items

-- the path of the node at the place
abbrev pub path_in : List (List ℕ) → ℕ → List ℕ
path_in paths i = slice_index_or paths i []

-- the paths of nodes below a layer with these paths
abbrev pub paths_below : List (List ℕ) → List NodeView → List (List ℕ)
paths_below above nodes = map (λ (node : NodeView). path_below (path_in above) node.parent node.decision) nodes

-- the layer at depth k, whose nodes have these paths, and the m layers below it
abbrev pub shown_down : (ℕ → List NodeView) → List (List ℕ) → ℕ → ℕ → List (List DdNode)
shown_down nodes paths k zero = shown_layer (path_in paths) (nodes k) ∷ []
shown_down nodes paths k (suc m) = shown_layer (path_in paths) (nodes k) ∷ shown_down nodes (paths_below paths (nodes (k + 1))) (k + 1) m

-- the layers from the first to the last one, below the prefix
abbrev pub shown_stack : List ℕ → Stack → List (List DdNode)
shown_stack prefix s = shown_down (nodes_in s) (prefix ∷ []) s.first (s.last - s.first)

-- the paths of the nodes j layers below depth k, whose nodes have these paths
abbrev pub paths_at : (ℕ → List NodeView) → List (List ℕ) → ℕ → ℕ → List (List ℕ)
paths_at nodes paths k zero = paths
paths_at nodes paths k (suc j) = paths_at nodes (paths_below paths (nodes (k + 1))) (k + 1) j

-- there is a layer for each depth down to the last one
pub record HasAllDepths (s : Stack) : Type 0 where
  pub small : s.vars ≤ 1024
  pub last : s.last ≤ s.vars
  pub count : s.vars < length s.layers.items

-- exact nodes at depth k have paths of this many decisions
abbrev pub HaveDepth : ℕ → List DdNode → Type 0
HaveDepth k layer = Each (λ (node : DdNode). IsTrue node.exact → length node.path ≡ k) layer

-- in each of the layers from depth k on
abbrev pub HaveDepths : ℕ → List (List DdNode) → Type 0
HaveDepths k [] = Unit {0}
HaveDepths k (layer ∷ layers) = HaveDepth k layer × HaveDepths (k + 1) layers

-- the cells of a layer's rows and its rooms
abbrev pub room_of : LayerView → LayerView
room_of layer = record layer { nodes = [] }

-- the layers have room: for each depth as many nodes as the width, and their arcs; just below the first layer, which is never
-- reduced, as many as there are choices
pub record HaveRooms (vars words width : ℕ) (choices : List ℕ) (layers : List LayerView) : Type 0 where
  pub count : length layers ≡ vars + 2
  pub words_are : (i : ℕ) → i < vars + 2 → (slice_index_or layers i no_layer).words ≡ words
  pub nodes : (k : ℕ) → k < vars → (slice_index_or layers k no_layer).nodes_room ≡ width
  pub arcs : (k : ℕ) → k < vars → (slice_index_or layers k no_layer).arcs_room ≡ width * slice_index_or choices k 0
  pub second_nodes : (k : ℕ) → k < vars → slice_index_or choices k 0 ≤ (slice_index_or layers vars no_layer).nodes_room
  pub second_arcs : (k : ℕ) → k + 1 < vars → slice_index_or choices k 0 * slice_index_or choices (k + 1) 0 ≤ (slice_index_or layers vars no_layer).arcs_room

-- a stack that is prepared for such sizes
pub record HasStack (words width : ℕ) (choices : List ℕ) (s : Stack) : Type 0 where
  pub small : s.vars ≤ 1024
  pub first : s.first ≤ s.last
  pub last : s.last ≤ s.vars
  pub rooms : HaveRooms s.vars words width choices (map room_of s.layers.items)
  pub newest_words : s.newest.words ≡ words
  pub top : (slice_index_or s.layers.items (s.vars + 1) no_layer).nodes ≡ []

-- for how many nodes there is room just below the first layer
abbrev pub second_room : ℕ → List LayerView → ℕ
second_room vars layers = (slice_index_or layers vars no_layer).nodes_room

-- the places of the rows of the layers at n depths from depth k on
abbrev pub places_down : (ℕ → List NodeView) → ℕ → ℕ → List ℕ
places_down nodes k zero = []
places_down nodes k (suc n) = places_of (nodes k) ++ places_down nodes (k + 1) n

-- the places of the rows of the layers that stand above the last one, from this depth on
abbrev pub places_above : ℕ → Stack → List ℕ
places_above depth s = places_down (nodes_in s) depth (s.last - depth)

-- the places of the rows of the layers from this depth on
abbrev pub places_from : ℕ → Stack → List ℕ
places_from depth s = places_above depth s ++ places_of s.newest.nodes

-- how many members a layer of a beam has at most: no layer has more choices than 1024
abbrev pub beam_width : ℕ → ℕ
beam_width width = max width 1024

-- how many rows the last layer and a beam take, where a layer has this many candidates: each of the two those of the candidates
-- and one ahead, and a beam those of its members besides
abbrev pub rows_below : ℕ → ℕ → ℕ
rows_below width room = room + 1 + (room + beam_width width + 1)

-- the region has the rows of the layers from the depth `held` on, and no others; and it has rows to spare for the layers that are
-- still to be kept, at each depth as many as the width, and just below the first layer as many as there is room for, and for the
-- last layer and a beam besides
pub record HasRows (words width held : ℕ) (s : Stack) : Type 0 where
  pub words_are : s.region.words ≡ words
  pub begun : s.first ≤ held
  pub low : held ≤ s.last
  pub held_rows : (k : ℕ) → held ≤ k → k ≤ s.last → AreHeld s.region (nodes_in s k)
  pub live : AreLive s.region (places_from held s)
  pub count : s.region.spare + length (places_from held s) ≡ length s.region.rows
  pub few : length s.newest.nodes ≤ s.newest.nodes_room
  pub spare : (s.vars - s.last) * width + rows_below width s.newest.nodes_room ≤ s.region.spare + length s.newest.nodes
  pub second_spare : s.last ≤ s.first + 1 → (s.vars - s.last) * width + second_room s.vars s.layers.items + rows_below width s.newest.nodes_room ≤ s.region.spare + length s.newest.nodes
  pub enough : s.vars * width + second_room s.vars s.layers.items + rows_below width s.newest.nodes_room ≤ length s.region.rows

-- a workspace has room for all that it was prepared for, and its exact nodes have paths of their depth
pub record HasSpace (words width held : ℕ) (choices : List ℕ) (prefix : List ℕ) (prefix_room : ℕ) (s : Stack) (expansion redirects : Room) (buffer : List ℕ) (beam : Beam) : Type 0 where
  pub stack : HasStack words width choices s
  pub rows : HasRows words width held s
  pub first : s.first ≡ length prefix
  pub prefix_fits : s.vars ≤ prefix_room
  pub expands : expansion ≡ record { most = s.newest.nodes_room; words = words }
  pub redirects_fit : redirects ≡ record { most = s.newest.nodes_room; words = words }
  pub path : length buffer ≡ s.vars
  pub depths : HaveDepths s.first (shown_stack prefix s)
  pub has_layers : (dp : Dp) → words ≡ dp.words → s.vars ≡ dp.vars → choices ≡ map dp.choices (below dp.vars) → HasLayers dp width beam
