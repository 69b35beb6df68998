-- What the steps of building a layer ask of nodes, and what they keep.
use Rattle.std.specs.Prelude.{◌≡◌, ℕ, List, map}
use Rattle.dp_model.specs.Dp.{Dp}
use Rattle.dp_model.specs.Gaps.{IsStateOf}
use Rattle.dp_model.specs.Lists.{Each, OneOf}
use Rattle.dp_model.specs.Numbers.{IsFar}
use Rattle.layer_candidates.specs.Ways.{IsNear, IsNearly}
use Rattle.layer_nodes.specs.Holding.{places_of}
use Rattle.layer_nodes.specs.Nodes.{NodeView, LayerView, without_arcs}

-- a node of the layer at depth k that may be extended: its row is a state, with its rank and its hash, and its value leaves room for a gain
pub record IsParent (dp : Dp) (k : ℕ) (node : NodeView) : Type 0 where
  pub state : IsStateOf dp k node.row
  pub rank : node.rank ≡ dp.rank k node.row
  pub hash : node.hash ≡ dp.hash k node.row
  pub value : IsNear node.value

-- a node of the layer at depth k: its row is a state, with its rank and its hash, and its value leaves room for gaps and rough bounds
pub record IsNodeOf (dp : Dp) (k : ℕ) (node : NodeView) : Type 0 where
  pub state : IsStateOf dp k node.row
  pub rank : node.rank ≡ dp.rank k node.row
  pub hash : node.hash ≡ dp.hash k node.row
  pub value : IsNearly node.value

-- a row is a state, with its rank and its hash
pub record IsRanked (dp : Dp) (k : ℕ) (node : NodeView) : Type 0 where
  pub state : IsStateOf dp k node.row
  pub rank : node.rank ≡ dp.rank k node.row
  pub hash : node.hash ≡ dp.hash k node.row

-- the arcs of the node may be lengthened by a gap
abbrev pub MayBeLengthened : NodeView → Type 0
MayBeLengthened node = Each (λ arc. IsFar arc.longer) node.arcs

-- each of the new ones is one of the old ones
abbrev pub AreAmong : {X : Type 0} → List X → List X → Type 0
AreAmong old new = Each (λ x. OneOf (λ other. other ≡ x) old) new

-- nothing of the layer changes but the arcs of its nodes
pub record KeepsNodes (old new : LayerView) : Type 0 where
  pub words : new.words ≡ old.words
  pub nodes : map without_arcs new.nodes ≡ map without_arcs old.nodes
  pub places : places_of new.nodes ≡ places_of old.nodes
  pub nodes_room : new.nodes_room ≡ old.nodes_room
  pub arcs_room : new.arcs_room ≡ old.arcs_room

-- the length of rows, and the rooms, stay as they are
pub record KeepsRoom (old new : LayerView) : Type 0 where
  pub words : new.words ≡ old.words
  pub nodes_room : new.nodes_room ≡ old.nodes_room
  pub arcs_room : new.arcs_room ≡ old.arcs_room
