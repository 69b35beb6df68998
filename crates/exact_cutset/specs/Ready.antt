-- Nodes that may become children, and the solution that is found.
use Rattle.std.specs.Prelude.{◌≡◌, ℕ, ◌+◌, ◌-◌, ◌<◌, ◌≤◌, ℤ, true, List, length, slice_get, Option, Some, None, option_and_then}
use Rattle.dp_model.specs.Dp.{Dp}
use Rattle.dp_model.specs.Gaps.{IsStateOf}
use Rattle.dp_model.specs.Numbers.{IsFar}
use Rattle.dp_laws.specs.Diagrams.Nodes.{DdNode, DdLayers, node_at}
use Rattle.dp_laws.specs.Diagrams.Cutsets.{bound_of, first_exact}
use Rattle.relaxed_dd.specs.Shown.{layer_in}
use Rattle.exact_cutset.specs.Seen.{ChildrenView, with_child, solution_of}

-- a node at depth k may become a child: it is exact, its row is a state, and where it has a bound that is of a bounded size
pub record IsChildReady (dp : Dp) (k : ℕ) (node : DdNode) : Type 0 where
  pub exact : node.exact ≡ true
  pub state : IsStateOf dp k node.row
  pub cells : length node.row ≡ dp.words
  pub far : (bound : ℤ) → bound_of dp k node ≡ Some bound → IsFar bound

-- there is a node, and it may become a child
abbrev pub IsChildReadyAt : Dp → ℕ → Option DdNode → Type 0
IsChildReadyAt dp k None = ⊥
IsChildReadyAt dp k (Some node) = IsChildReady dp k node

-- the bound of the node at a place
abbrev pub bound_at : Dp → DdLayers → ℕ → ℕ → Option ℤ
bound_at dp d depth place = option_and_then (λ node. bound_of dp depth node) (node_at d depth place)

-- with one child more where there is a bound
abbrev pub with_bounded : DdLayers → ℕ → ℕ → Option ℤ → ChildrenView → ChildrenView
with_bounded d depth place None v = v
with_bounded d depth place (Some bound) v = with_child d (record { depth = depth; place = place; bound = bound }) v

-- the nodes of a layer may become children, and there is room for them
pub record IsCut (dp : Dp) (d : DdLayers) (depth room : ℕ) : Type 0 where
  pub first : d.first ≤ depth
  pub last : depth ≤ d.first + (length d.layers - 1)
  pub low : depth ≤ dp.vars
  pub few : length (layer_in d depth) ≤ room
  pub ready : (i : ℕ) → i < length (layer_in d depth) → IsChildReadyAt dp depth (node_at d depth i)

-- the place is that of the first exact node, and none where there is none
pub record IsFirstExact (layer : List DdNode) (place : ℕ) : Type 0 where
  pub node : DdNode
  pub at : slice_get layer place ≡ Some node
  pub exact : node.exact ≡ true
  pub first : first_exact layer ≡ Some (solution_of node)

-- the place of the first exact node, or none where no node is exact
abbrev pub FindsExact : List DdNode → Option ℕ → Type 0
FindsExact layer None = first_exact layer ≡ None
FindsExact layer (Some place) = IsFirstExact layer place

-- the last exact layer may become children, where a layer was reduced
pub record HasCut (dp : Dp) (d : DdLayers) (room reduced : ℕ) : Type 0 where
  pub positive : 1 ≤ reduced
  pub cut : IsCut dp d (reduced - 1) room

-- the nodes at the cut, where there is one, may become children
abbrev pub CutIsReady : Dp → DdLayers → ℕ → Option ℕ → Type 0
CutIsReady dp d room None = Unit {0}
CutIsReady dp d room (Some reduced) = HasCut dp d room reduced
