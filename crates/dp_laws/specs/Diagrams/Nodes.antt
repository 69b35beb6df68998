-- The nodes of a diagram, with the arcs that leave them.
use Rattle.std.specs.Prelude.{ℕ, ◌-◌, ℤ, Bool, List, [], ◌∷◌, ◌++◌, slice_get, Option, Some, None, cond, option_and_then}
use Rattle.dp_model.specs.Reached.{Reached}
use Rattle.dp_laws.specs.declared.arc.DdArc.{DdArc}

-- a node: a row, the greatest length of a path to it, whether it stands for one state exactly, its arcs, the decisions by
-- which an exact one is reached, and the greatest length of a path from it to the last layer
pub record DdNode : Type 0 where
  pub row : List ℤ
  pub value : ℤ
  pub exact : Bool
  pub arcs : List DdArc
  pub path : List ℕ
  pub suffix : Option ℤ

-- the layers from the first depth to n, and the least depth at which one was reduced
pub record DdLayers : Type 0 where
  pub first : ℕ
  pub layers : List (List DdNode)
  pub first_reduced : Option ℕ

-- the node at a depth and a place
abbrev pub node_at : DdLayers → ℕ → ℕ → Option DdNode
node_at d depth place = option_and_then (λ layer. slice_get layer place) (slice_get d.layers (depth - d.first))

-- the path of a node where the layer above has these paths: its parent's and its decision; without a parent, as a merged
-- node is, it has none
abbrev pub path_below : (ℕ → List ℕ) → Option ℕ → ℕ → List ℕ
path_below paths None decision = []
path_below paths (Some parent) decision = paths parent ++ decision ∷ []

-- the prefix that an exact node stands for
abbrev pub prefix_at : DdNode → Reached
prefix_at node = record { decisions = node.path; row = node.row; value = node.value }

-- an exact node as a member of a beam's layer
abbrev pub as_member : DdNode → Option Reached
as_member node = cond node.exact (Some (prefix_at node)) None
