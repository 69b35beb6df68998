-- How a layer lies in memory.
use Rattle.std.specs.Prelude.{ℕ, ◌+◌, ◌^◌, ◌<◌, ◌≤◌, ℤ, List, length, map, take, drop}
use Rattle.dp_model.specs.Lists.{Each}
use Rattle.dp_laws.specs.declared.arc.DdArc.{DdArc}
use Rattle.layer_candidates.specs.declared.table.WayTable.{WayTable}
use Rattle.layer_candidates.specs.WayTables.{HasTableRoom}
use Rattle.layer_nodes.specs.declared.node.Node.{Node}
use Rattle.layer_nodes.specs.declared.routing.StoredArc.{StoredArc}
use Rattle.layer_nodes.specs.Nodes.{NodeView}

-- a node in memory, whose arcs lie in those of the layer, with the row that is found at its place
abbrev pub node_view_by : (ℕ → List ℤ) → List DdArc → Node → NodeView
node_view_by row arcs node = record {
  row = row node.row;
  place = node.row;
  value = node.value;
  rank = node.rank;
  hash = node.hash;
  exact = node.exact;
  parent = node.parent;
  decision = node.decision;
  arcs = take node.arcs (drop node.first_arc arcs);
  suffix = node.suffix;
}

-- the places of the rows of nodes in memory
abbrev pub rows_in : List Node → List ℕ
rows_in nodes = map (λ (node : Node). node.row) nodes

-- the node without its arcs
abbrev pub bare_of : Node → Node
bare_of node = record node { first_arc = 0; arcs = 0 }

-- the arcs of the node are some of the layer's
abbrev pub HasArcsIn : {X : Type 0} → List X → Node → Type 0
HasArcsIn arcs node = node.first_arc + node.arcs ≤ length arcs

-- there is room for this many nodes and for a route for each arc, and the arcs of each node are some of the layer's
pub record HasLayer (room : ℕ) (nodes : List Node) (nodes_room : ℕ) (arcs : List StoredArc) (arcs_room routes_room : ℕ) : Type 0 where
  pub small : room + 1 < 2 ^ 32
  pub fits : length nodes ≤ room
  pub nodes_hold : room ≤ nodes_room
  pub few_arcs : length arcs < 2 ^ 32
  pub routes_hold : arcs_room ≤ routes_room
  pub arcs_lie : Each (HasArcsIn arcs) nodes

-- there is room for this many nodes or candidates at most, and for a row of this many cells
pub record Room : Type 0 where
  pub most : ℕ
  pub words : ℕ

-- there is memory for this many candidates
pub record HasExpansion (room : ℕ) (table : WayTable) (keys exact : ℕ) : Type 0 where
  pub table_room : HasTableRoom room table
  pub keys_hold : room ≤ keys
  pub exact_hold : room ≤ exact
