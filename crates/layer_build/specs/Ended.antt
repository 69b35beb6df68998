-- The layers of a diagram whose suffixes are set, one layer after another.
use Rattle.std.specs.Prelude.{◌≡◌, ◌≢◌, ℕ, zero, suc, ◌+◌, ◌≤◌, nat_eq, ℤ, pos, cond, List, [], ◌∷◌, map, Option, Some, slice_index_or}
use Rattle.dp_model.specs.Dp.{Dp}
use Rattle.dp_model.specs.Numbers.{greatest}
use Rattle.dp_laws.specs.declared.arc.DdArc.{DdArc}
use Rattle.dp_laws.specs.Diagrams.Nodes.{DdNode}
use Rattle.dp_laws.specs.Diagrams.Seen.{suffix_from}
use Rattle.dp_laws.specs.Rules.Compiling.{first_of_layers}
use Rattle.layer_nodes.specs.Nodes.{NodeView}
use Rattle.layer_nodes.specs.Ending.{lengths}
use Rattle.layer_build.specs.declared.stack.Stack.{Stack}
use Rattle.layer_build.specs.Stacked.{no_layer, nodes_in, room_of}

-- a node at depth k with its suffix
abbrev pub ended : Dp → ℕ → List DdNode → DdNode → DdNode
ended dp k next node = record node { suffix = suffix_from dp k next node.arcs }

-- the layers with the suffixes of the j-th of them, which is at depth k
abbrev pub ended_at : Dp → ℕ → ℕ → List (List DdNode) → List (List DdNode)
ended_at dp k j [] = []
ended_at dp k zero (layer ∷ rest) = map (ended dp k (first_of_layers rest)) layer ∷ rest
ended_at dp k (suc j) (layer ∷ rest) = layer ∷ ended_at dp k j rest

-- the greatest length of a path that begins with one of the arcs of a node at the depth
abbrev pub longest_from : Stack → ℕ → List DdArc → Option ℤ
longest_from s depth arcs = cond (nat_eq depth s.last) (Some (pos 0)) (greatest (lengths (map (λ (below : NodeView). below.suffix) (nodes_in s (depth + 1))) arcs))

-- the node with a suffix that its arcs give
abbrev pub with_suffix : (List DdArc → Option ℤ) → NodeView → NodeView
with_suffix rule node = record node { suffix = rule node.arcs }

-- only the suffixes of the nodes at the depth change
pub record HasSuffixesAt (depth : ℕ) (old new : Stack) : Type 0 where
  pub vars : new.vars ≡ old.vars
  pub first : new.first ≡ old.first
  pub last : new.last ≡ old.last
  pub region : new.region ≡ old.region
  pub rooms : map room_of new.layers.items ≡ map room_of old.layers.items
  pub newest : room_of new.newest ≡ room_of old.newest
  pub nodes : nodes_in new depth ≡ map (with_suffix (longest_from old depth)) (nodes_in old depth)
  pub others : (k : ℕ) → k ≤ old.last → k ≢ depth → nodes_in new k ≡ nodes_in old k
  pub top : (slice_index_or new.layers.items (old.vars + 1) no_layer).nodes ≡ (slice_index_or old.layers.items (old.vars + 1) no_layer).nodes
