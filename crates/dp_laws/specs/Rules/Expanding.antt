-- A layer and its arcs from the layer above it: of each state one node, in the reduction order.
use Rattle.std.specs.Prelude.{ℕ, ℤ, pos, Bool, true, false, not, ◌&&◌, ◌||◌, List, [], ◌∷◌, map, position, None}
use Rattle.dp_model.specs.Dp.{Dp}
use Rattle.dp_model.specs.Reached.{Reached}
use Rattle.dp_model.specs.Rows.{row_same}
use Rattle.dp_laws.specs.Restricted.Beam.{expanded}
use Rattle.dp_laws.specs.declared.arc.DdArc.{DdArc}
use Rattle.dp_laws.specs.Diagrams.Nodes.{DdNode, prefix_at}
use Rattle.dp_laws.specs.Diagrams.Seen.{decisions_at}

-- whether one of the decisions makes the row from the state
abbrev pub makes : Dp → ℕ → List ℤ → List ℕ → List ℤ → Bool
makes dp k s [] row = false
makes dp k s (d ∷ ds) row = row_same (dp.step k s d) row || makes dp k s ds row

-- exact: every node of the layer above with an arc that makes the row is exact
abbrev pub is_exact_row : Dp → ℕ → List DdNode → List ℤ → Bool
is_exact_row dp k [] row = true
is_exact_row dp k (node ∷ above) row =
    (node.exact || not (makes dp k node.row (decisions_at dp k node.row) row)) && is_exact_row dp k above row

-- a node for the best prefix of a state, with no arcs yet
abbrev pub node_for : Dp → ℕ → List DdNode → Reached → DdNode
node_for dp k above r = record { row = r.row; value = r.value; exact = is_exact_row dp k above r.row; arcs = []; path = r.decisions; suffix = None }

-- the new layer below the one at depth k
abbrev pub new_layer : Dp → ℕ → List DdNode → List DdNode
new_layer dp k above = map (node_for dp k above) (expanded dp k (map prefix_at above))

-- the arc of a decision: its target is the node of its state
abbrev pub arc_of : Dp → ℕ → List DdNode → List ℤ → ℕ → DdArc
arc_of dp k next s d = record {
  decision = d;
  target = position (λ (node : DdNode). row_same node.row (dp.step k s d)) next;
  gain = dp.gain k s d;
  longer = pos 0;
}

-- the layer at depth k with its arcs into the next one
abbrev pub with_arcs : Dp → ℕ → List DdNode → List DdNode → List DdNode
with_arcs dp k next layer = map (λ (node : DdNode). record node { arcs = map (arc_of dp k next node.row) (decisions_at dp k node.row) }) layer
