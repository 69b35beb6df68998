-- The nodes of a layer in memory, and the nodes of a diagram that they stand for.
use Rattle.std.specs.Prelude.{ℕ, ◌+◌, ℤ, Bool, List, [], ◌∷◌, map, Option}
use Rattle.dp_model.specs.Dp.{Dp}
use Rattle.dp_laws.specs.declared.arc.DdArc.{DdArc}
use Rattle.dp_laws.specs.Diagrams.Nodes.{DdNode, path_below}

-- a node in memory: with its rank and its hash, and with the place of its parent in the layer above and its decision, which stand for its
-- path; a merged node and the first one of all have no parent
pub record NodeView : Type 0 where
  pub row : List ℤ
  -- the place of its row in the region
  pub place : ℕ
  pub value : ℤ
  pub rank : ℤ
  pub hash : ℕ
  pub exact : Bool
  pub parent : Option ℕ
  pub decision : ℕ
  pub arcs : List DdArc
  pub suffix : Option ℤ

-- what is told of a state beside its cells: its rank and its hash
pub record Told : Type 0 where
  pub rank : ℤ
  pub hash : ℕ

-- of the state of a node in memory
abbrev pub told_by : NodeView → Told
told_by node = record { rank = node.rank; hash = node.hash }

-- of a state of the layer at depth k
abbrev pub told_of : Dp → ℕ → List ℤ → Told
told_of dp k row = record { rank = dp.rank k row; hash = dp.hash k row }

-- the nodes of a layer in order, the length of their rows, and for how many nodes and arcs there is room
pub record LayerView : Type 0 where
  pub words : ℕ
  pub nodes : List NodeView
  pub nodes_room : ℕ
  pub arcs_room : ℕ

-- the node with its path
abbrev pub shown : List ℕ → NodeView → DdNode
shown path node = record { row = node.row; value = node.value; exact = node.exact; arcs = node.arcs; path = path; suffix = node.suffix }

-- the nodes from the place i on, each with the path of its place
abbrev pub shown_from : (ℕ → List ℕ) → ℕ → List NodeView → List DdNode
shown_from paths i [] = []
shown_from paths i (node ∷ nodes) = shown (paths i) node ∷ shown_from paths (i + 1) nodes

-- the nodes of a layer, each with the path of its place
abbrev pub shown_layer : (ℕ → List ℕ) → List NodeView → List DdNode
shown_layer paths nodes = shown_from paths 0 nodes

-- the nodes of the layer below one with these paths
abbrev pub shown_below : (ℕ → List ℕ) → List NodeView → List DdNode
shown_below paths nodes = map (λ (node : NodeView). shown (path_below paths node.parent node.decision) node) nodes

-- all of a node but its arcs and the place of its row
abbrev pub without_arcs : NodeView → NodeView
without_arcs node = record node { place = 0; arcs = [] }
