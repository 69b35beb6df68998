-- The two reductions of a layer to a width.
use Rattle.std.specs.Prelude.{ℕ, ◌-◌, ℤ, pos, false, List, [], ◌∷◌, ◌++◌, length, map, take, drop, replicate, Option, Some, None, unwrap_or}
use Rattle.std.specs.List.{filter_map}
use Rattle.dp_model.specs.Dp.{Dp}
use Rattle.dp_model.specs.Decisions.{below}
use Rattle.dp_model.specs.Numbers.{add_some, greatest}
use Rattle.dp_laws.specs.Diagrams.Nodes.{DdNode}
use Rattle.dp_laws.specs.Rules.Redirects.{Redirect}

-- the arcs into nodes that stay keep their targets
abbrev pub staying : ℕ → List (Option Redirect)
staying w = map (λ i. Some (record { place = i; longer = pos 0 })) (below w)

-- where arcs are redirected when only the first w nodes stay
abbrev pub keep_redirects : ℕ → List DdNode → List (Option Redirect)
keep_redirects w layer = staying w ++ replicate (length layer - w) None

-- the first row with each of the others merged into it, in order
abbrev pub merged_row : Dp → ℕ → List ℤ → List DdNode → List ℤ
merged_row dp k row [] = row
merged_row dp k row (node ∷ nodes) = merged_row dp k (dp.merged k row node.row) nodes

-- the row of the node into which the nodes are merged
abbrev pub row_of_all : Dp → ℕ → List DdNode → List ℤ
row_of_all dp k [] = []
row_of_all dp k (node ∷ nodes) = merged_row dp k node.row nodes

-- the inexact node into which the nodes are merged: the greatest of their values, each with the gap to its row
abbrev pub merged_node : Dp → ℕ → List DdNode → DdNode
merged_node dp k nodes = record {
  row = row_of_all dp k nodes;
  value = unwrap_or (greatest (filter_map (λ (node : DdNode). add_some node.value (dp.gap k (row_of_all dp k nodes) node.row)) nodes)) (pos 0);
  exact = false;
  arcs = [];
  path = [];
  suffix = None;
}

-- a layer of more than w nodes, of which the first w - 1 stay and the others are merged into one that stands last
abbrev pub merged_layer : Dp → ℕ → ℕ → List DdNode → List DdNode
merged_layer dp k w layer = take (w - 1) layer ++ merged_node dp k (drop (w - 1) layer) ∷ []

-- a redirect to a place by a gap, or none
abbrev pub redirect_by : ℕ → Option ℤ → Option Redirect
redirect_by place None = None
redirect_by place (Some gap) = Some (record { place = place; longer = gap })

-- an arc into a merged node is lengthened by its gap
abbrev pub merge_redirect : Dp → ℕ → ℕ → List ℤ → DdNode → Option Redirect
merge_redirect dp k place row node = redirect_by place (dp.gap k row node.row)

-- where arcs are redirected when all but the first w - 1 nodes are merged
abbrev pub merge_redirects : Dp → ℕ → ℕ → List DdNode → List (Option Redirect)
merge_redirects dp k w layer =
    staying (w - 1) ++ map (merge_redirect dp k (w - 1) (row_of_all dp k (drop (w - 1) layer))) (drop (w - 1) layer)
