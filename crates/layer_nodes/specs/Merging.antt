-- The last nodes of a layer are merged in memory into one.
use Rattle.std.specs.Prelude.{◌≡◌, ℕ, ◌-◌, ℤ, pos, int_lt, false, cond, List, [], ◌∷◌, ◌++◌, map, take, drop, Option, Some, None}
use Rattle.std.specs.List.{filter_map}
use Rattle.dp_model.specs.Dp.{Dp}
use Rattle.dp_model.specs.Gaps.{IsStateOf}
use Rattle.dp_model.specs.Lists.{Each}
use Rattle.dp_model.specs.Numbers.{add_some}
use Rattle.dp_laws.specs.Diagrams.Nodes.{DdNode}
use Rattle.dp_laws.specs.Rules.Redirects.{Redirect}
use Rattle.dp_laws.specs.Rules.Reducing.{staying, row_of_all, merged_node, merge_redirects}
use Rattle.layer_candidates.specs.HeldRows.{HasExchanged, held_row}
use Rattle.row_region.specs.Region.{RegionView, IsRow}
use Rattle.layer_nodes.specs.declared.node.Node.{Node}
use Rattle.layer_nodes.specs.Leading.{bare}
use Rattle.layer_nodes.specs.Redirecting.{IsShort}
use Rattle.layer_nodes.specs.Holding.{HaveRows}
use Rattle.layer_nodes.specs.Stored.{rows_in}

-- the region has a row at the place, which is a state of the layer at depth k
pub record IsStateIn (dp : Dp) (k : ℕ) (region : RegionView) (place : ℕ) : Type 0 where
  pub found : IsRow region place (held_row region place)
  pub state : IsStateOf dp k (held_row region place)

-- a node of which only the row is known
abbrev pub of_row : List ℤ → DdNode
of_row row = record { row = row; value = pos 0; exact = false; arcs = []; path = []; suffix = None }

-- the row that the rows at the places are merged into
abbrev pub row_of_places : Dp → ℕ → (ℕ → List ℤ) → List ℕ → List ℤ
row_of_places dp k row places = row_of_all dp k (map (λ place. of_row (row place)) places)

-- the greater of two numbers, of which none may be there
abbrev pub greater : Option ℤ → Option ℤ → Option ℤ
greater None other = other
greater (Some z) None = Some z
greater (Some z) (Some y) = Some (cond (int_lt z y) y z)

-- the values of the nodes, each with the gap from the row to it
abbrev pub lifted : Dp → ℕ → List ℤ → List DdNode → List ℤ
lifted dp k row nodes = filter_map (λ (node : DdNode). add_some node.value (dp.gap k row node.row)) nodes

-- the node in memory that the nodes are merged into, with its row at the place
abbrev pub merged_at : Dp → ℕ → ℕ → List DdNode → Node
merged_at dp k place nodes = record {
  value = (merged_node dp k nodes).value;
  rank = dp.rank k (row_of_all dp k nodes);
  hash = dp.hash k (row_of_all dp k nodes);
  suffix = None;
  parent = None;
  row = place;
  decision = 0;
  first_arc = 0;
  arcs = 0;
  exact = false;
}

-- the nodes but for the first width - 1 were merged into one, whose row the region has in place of theirs
pub record HasMerged (dp : Dp) (k width : ℕ) (old : RegionView) (nodes : List Node) (new : RegionView) (nodes2 : List Node) (redirects : List (Option Redirect)) : Type 0 where
  pub place : ℕ
  pub list : nodes2 ≡ take (width - 1) nodes ++ merged_at dp k place (map (bare (held_row old)) (drop (width - 1) nodes)) ∷ []
  pub held : HaveRows new (held_row old) (rows_in (take (width - 1) nodes))
  pub merged : IsRow new place (row_of_all dp k (map (bare (held_row old)) (drop (width - 1) nodes)))
  pub state : IsStateOf dp k (row_of_all dp k (map (bare (held_row old)) (drop (width - 1) nodes)))
  pub exchanged : HasExchanged old (rows_in nodes) new (rows_in nodes2)
  pub targets : staying (width - 1) ++ redirects ≡ merge_redirects dp k width (map (bare (held_row old)) nodes)
  pub short : Each IsShort redirects
