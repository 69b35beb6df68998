-- What is seen of a list of children.
use Rattle.std.specs.Prelude.{◌≡◌, ℕ, true, List, [], ◌∷◌, ◌++◌, length, map, Option, Some, None, option_map}
use Rattle.dp_model.specs.Solution.{Solution}
use Rattle.dp_model.specs.Subproblem.{Subproblem, SubView}
use Rattle.dp_laws.specs.Diagrams.Nodes.{DdNode, DdLayers, node_at}
use Rattle.dp_laws.specs.Diagrams.Cutsets.{ChildAt, child_from}

-- the places of the children with their bounds, and the children as subproblems; the solution that the diagram finds; and the
-- sizes that it was prepared for, with for how many nodes of a layer and for how many children there is room
pub record ChildrenView : Type 0 where
  pub places : List ChildAt
  pub subs : List Subproblem
  pub found : Option Solution
  pub width : ℕ
  pub vars : ℕ
  pub words : ℕ
  pub wide : ℕ
  pub room : ℕ

-- with one child more
abbrev pub with_child : DdLayers → ChildAt → ChildrenView → ChildrenView
with_child d c v = record v { places = v.places ++ c ∷ []; subs = v.subs ++ child_from d c ∷ [] }

-- a node as a solution
abbrev pub solution_of : DdNode → Solution
solution_of node = record { decisions = node.path; value = node.value }

-- with the node of the last layer as the solution
abbrev pub with_solution : DdLayers → ℕ → ChildrenView → ChildrenView
with_solution d place v = record v { found = option_map solution_of (node_at d v.vars place) }

-- the node is there and exact
abbrev pub IsExactNode : Option DdNode → Type 0
IsExactNode None = ⊥
IsExactNode (Some node) = node.exact ≡ true

-- the node is there and exact, and its row has this many cells
abbrev pub MayKeep : ℕ → Option DdNode → Type 0
MayKeep words None = ⊥
MayKeep words (Some node) = (node.exact ≡ true) × (length node.row ≡ words)

-- what subproblems in memory are
abbrev pub subproblems : List SubView → List Subproblem
subproblems subs = map (λ (s : SubView). s.subproblem) subs
