-- The frontier, walked layer by layer from the first one down.
use Rattle.std.specs.Prelude.{◌≡◌, ◌≢◌, ℕ, ◌+◌, ◌-◌, ◌*◌, ◌<◌, ◌≤◌, Bool, true, false, not, cond, ◌&&◌, List, ◌++◌, length, take, drop, slice_get, Option, Some, None, IsSome, is_some, option_map, map}
use Rattle.dp_model.specs.Dp.{Dp}
use Rattle.dp_model.specs.Decisions.{begins}
use Rattle.dp_model.specs.Lists.{Each}
use Rattle.dp_laws.specs.declared.arc.DdArc.{DdArc}
use Rattle.dp_laws.specs.Diagrams.Nodes.{DdNode, DdLayers, node_at}
use Rattle.dp_laws.specs.Diagrams.Cutsets.{ChildAt, bound_of, is_border, all_borders_at, passes, outermost, path_at, frontier_at, places_where, child_from}
use Rattle.relaxed_dd.specs.Shown.{layer_in, last_of}
use Rattle.exact_cutset.specs.Seen.{ChildrenView, with_child}
use Rattle.exact_cutset.specs.Ready.{IsChildReady}

-- the place lies in the layer
abbrev pub IsPlaceIn : List DdNode → Option ℕ → Type 0
IsPlaceIn layer None = Unit {0}
IsPlaceIn layer (Some place) = IsSome (slice_get layer place)

-- the node at the place of the layer above is exact, and the path leads through it
pub record IsStem (d : DdLayers) (depth place : ℕ) (path : List ℕ) : Type 0 where
  pub node : DdNode
  pub is : node_at d (depth - 1) place ≡ Some node
  pub exact : node.exact ≡ true
  pub path_is : node.path ≡ take (depth - 1) path

-- an exact node at the depth: it may become a child, its path has this many decisions, and its arcs lead to nodes
pub record IsExactAt (dp : Dp) (d : DdLayers) (depth : ℕ) (node : DdNode) : Type 0 where
  pub ready : IsChildReady dp depth node
  pub long : length node.path ≡ depth
  pub leads : Each (λ (arc : DdArc). IsPlaceIn (layer_in d (depth + 1)) arc.target) node.arcs

-- the layers between the first and the last one can be walked: they have few nodes, and the exact ones of each layer have different
-- paths that lead through exact nodes
pub record IsWalkable (dp : Dp) (d : DdLayers) (wide room : ℕ) : Type 0 where
  pub first : d.first < last_of d
  pub last : last_of d ≡ dp.vars
  pub some : 1 ≤ wide
  pub small : dp.vars ≤ 1024
  pub one : length (layer_in d d.first) ≡ 1
  pub few : (depth : ℕ) → d.first < depth → depth < last_of d → length (layer_in d depth) ≤ wide
  pub all : dp.vars * wide ≤ room
  pub exact : (depth i : ℕ) (x : DdNode) → d.first < depth → depth < last_of d → node_at d depth i ≡ Some x → x.exact ≡ true → IsExactAt dp d depth x
  pub apart : (depth i j : ℕ) (x y : DdNode) → d.first < depth → depth < last_of d → node_at d depth i ≡ Some x → node_at d depth j ≡ Some y → x.exact ≡ true → y.exact ≡ true → i ≢ j → begins x.path y.path ≡ false
  pub second : (i : ℕ) (x : DdNode) → d.first + 1 < last_of d → node_at d (d.first + 1) i ≡ Some x → x.exact ≡ true → IsStem d (d.first + 1) 0 x.path
  pub stem : (depth i j : ℕ) (x y : DdNode) → d.first + 1 < depth → depth < last_of d → node_at d depth i ≡ Some x → node_at d (depth - 1) j ≡ Some y → x.exact ≡ true → y.path ≡ take (depth - 1) x.path → y.exact ≡ true

-- the child of a border node with a bound
abbrev pub border_at : Dp → DdLayers → ℕ → ℕ → DdNode → Option ChildAt
border_at dp d depth i node = cond (is_border (layer_in d (depth + 1)) node) (option_map (λ bound. record { depth = depth; place = i; bound = bound }) (bound_of dp depth node)) None

-- with a further child, where the node is one
abbrev pub with_border : DdLayers → Option ChildAt → ChildrenView → ChildrenView
with_border d None v = v
with_border d (Some c) v = with_child d c v

-- the borders from the depth on
abbrev pub borders_from : Dp → DdLayers → ℕ → List ChildAt
borders_from dp d depth = all_borders_at dp depth (drop (depth - d.first) d.layers)

-- those from a place of the layer at the depth on
abbrev pub borders_left : Dp → DdLayers → ℕ → ℕ → List ChildAt
borders_left dp d depth i = places_where (is_border (layer_in d (depth + 1))) dp depth i (drop i (layer_in d depth)) ++ borders_from dp d (depth + 1)

-- whether no child stands on the path
abbrev pub is_free : DdLayers → List ChildAt → List ℕ → Bool
is_free d cs path = not (passes (path_at d) cs path)

-- of the nodes at the depth the marks tell of each exact one whether no child stands on its path
abbrev pub AreMarks : DdLayers → ℕ → List ChildAt → List Bool → Type 0
AreMarks d depth cs marks = (j : ℕ) (x : DdNode) → j < length marks → node_at d depth j ≡ Some x → x.exact ≡ true → slice_get marks j ≡ Some (is_free d cs x.path)

-- the first nodes of the layer were looked at, as many as there are marks, after those above with the children `before`
pub record HasLooked (dp : Dp) (d : DdLayers) (wide depth : ℕ) (before cs : List ChildAt) (marks : List Bool) : Type 0 where
  pub whole : cs ++ outermost (path_at d) cs (borders_left dp d depth (length marks)) ≡ frontier_at dp d
  pub ahead : (j : ℕ) (x : DdNode) → length marks ≤ j → node_at d depth j ≡ Some x → x.exact ≡ true → passes (path_at d) cs x.path ≡ passes (path_at d) before x.path
  pub marked : AreMarks d depth cs marks
  pub short : Each (λ c. length (path_at d c) ≤ depth) cs
  pub few : length cs ≤ (depth - d.first - 1) * wide + length marks

-- the layers above the depth were walked
pub record IsWalkedTo (dp : Dp) (d : DdLayers) (wide depth : ℕ) (cs : List ChildAt) (marks : List Bool) : Type 0 where
  pub whole : cs ++ outermost (path_at d) cs (borders_from dp d depth) ≡ frontier_at dp d
  pub marked : AreMarks d (depth - 1) cs marks
  pub all : length marks ≡ length (layer_in d (depth - 1))
  pub short : Each (λ c. length (path_at d c) ≤ depth - 1) cs
  pub few : length cs ≤ (depth - d.first - 1) * wide

-- a node was looked at: an inexact one is never free; an exact one is where its stem is and it becomes no child
pub record IsTakenExact (dp : Dp) (d : DdLayers) (depth i : ℕ) (x : DdNode) (above : List Bool) (old new : ChildrenView) (free : Bool) : Type 0 where
  pub place : ℕ
  pub stem : IsStem d depth place x.path
  pub clear : Bool
  pub at : slice_get above place ≡ Some clear
  pub free_is : free ≡ (clear && not (is_some (border_at dp d depth i x)))
  pub new_is : new ≡ cond clear (with_border d (border_at dp d depth i x) old) old

-- what a walk does at a node of a layer
pub record IsTakenNode (dp : Dp) (d : DdLayers) (depth i : ℕ) (above : List Bool) (old new : ChildrenView) (free : Bool) : Type 0 where
  pub node : DdNode
  pub is : node_at d depth i ≡ Some node
  pub inexact : node.exact ≡ false → new ≡ old
  pub exact : node.exact ≡ true → IsTakenExact dp d depth i node above old new free

-- the arcs of the node lead to nodes of the next layer
abbrev pub HasLeaving : DdLayers → ℕ → Option DdNode → Type 0
HasLeaving d depth None = Unit {0}
HasLeaving d depth (Some node) = Each (λ (arc : DdArc). IsPlaceIn (layer_in d (depth + 1)) arc.target) node.arcs

-- the place of the stem of a node, which is the only one of the first layer, or has the front of the node's path
abbrev pub StemsAt : DdLayers → ℕ → ℕ → Option DdNode → Type 0
StemsAt d depth place None = Unit {0}
StemsAt d depth place (Some node) =
    (depth ≡ d.first + 1 → place ≡ 0) × (d.first + 1 < depth → option_map (λ (n : DdNode). n.path) (node_at d (depth - 1) place) ≡ Some (take (depth - 1) node.path))

-- a layer was walked
pub record HasWalkedLayer (dp : Dp) (d : DdLayers) (depth : ℕ) (marks : List Bool) (old new : ChildrenView) : Type 0 where
  pub rest : new ≡ record old { places = new.places; subs = new.subs }
  pub subs : new.subs ≡ map (child_from d) new.places
  pub walked : IsWalkedTo dp d old.wide (depth + 1) new.places marks

-- all layers were walked
abbrev pub HasFrontier : Dp → DdLayers → ChildrenView → ChildrenView → Type 0
HasFrontier dp d old new = new ≡ record old { places = frontier_at dp d; subs = map (child_from d) (frontier_at dp d) }

-- whether the stem of an exact node is free, by the marks of the layer above
pub record IsMarkedFree (d : DdLayers) (depth : ℕ) (above : List Bool) (node : DdNode) (free : Bool) : Type 0 where
  pub place : ℕ
  pub stems : StemsAt d depth place (Some node)
  pub at : slice_get above place ≡ Some free

-- whether a node is free: an inexact one never is, and an exact one is where its stem is free
abbrev pub IsFreeNode : DdLayers → ℕ → List Bool → Option DdNode → Bool → Type 0
IsFreeNode d depth above None free = ⊥
IsFreeNode d depth above (Some node) free = (node.exact ≡ false → free ≡ false) × (node.exact ≡ true → IsMarkedFree d depth above node free)

-- a border with a bound became a child
abbrev pub IsTakenBorder : Dp → DdLayers → ℕ → ℕ → Option DdNode → ChildrenView → ChildrenView → Bool → Type 0
IsTakenBorder dp d depth i None old new taken = ⊥
IsTakenBorder dp d depth i (Some node) old new taken = (new ≡ with_border d (border_at dp d depth i node) old) × (taken ≡ is_some (border_at dp d depth i node))
