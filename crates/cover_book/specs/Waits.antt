-- Rows that wait, in memory.
use Rattle.std.specs.Prelude.{◌≡◌, ℕ, ◌<◌, pos, true, List, map, length, Option, Some, None}
use Rattle.dp_model.specs.Dp.{Dp}
use Rattle.dp_model.specs.Lists.{Each}
use Rattle.dp_model.specs.Subproblem.{Subproblem, IsOwn}
use Rattle.dp_laws.specs.Diagrams.Nodes.{DdNode, DdLayers, node_at}
use Rattle.relaxed_dd.specs.Shown.{layer_in}
use Rattle.bound_cover.specs.Exploring.{Waiting}
use Rattle.cover_book.specs.declared.waiting.WaitingRow.{WaitingRow}

-- a row that waits, as the rules see it
abbrev pub waiting_row : WaitingRow → Waiting
waiting_row w = record { place = w.place; prefix = w.sub.subproblem.decisions }

-- the rows that wait
abbrev pub waiting_of : List WaitingRow → List Waiting
waiting_of rows = map waiting_row rows

-- each of them stands for a prefix with its own state and value
abbrev pub AreOwn : Dp → List WaitingRow → Type 0
AreOwn dp rows = Each (λ (w : WaitingRow). IsOwn dp w.sub.subproblem) rows

-- an exact node as a subproblem
abbrev pub sub_of : DdNode → Subproblem
sub_of node = record { decisions = node.path; row = node.row; value = node.value; bound = pos 0 }

-- the node is there and exact, and stands for a prefix with its own state and value
pub record IsOwnNode (dp : Dp) (node : DdNode) : Type 0 where
  pub exact : node.exact ≡ true
  pub own : IsOwn dp (sub_of node)

-- there is a node, and it is a prefix of its own
abbrev pub IsOwnAt : Dp → Option DdNode → Type 0
IsOwnAt dp None = ⊥
IsOwnAt dp (Some node) = IsOwnNode dp node

-- each node of the layer is such a one
abbrev pub AreOwnAt : Dp → DdLayers → ℕ → Type 0
AreOwnAt dp d depth = (i : ℕ) → i < length (layer_in d depth) → IsOwnAt dp (node_at d depth i)
