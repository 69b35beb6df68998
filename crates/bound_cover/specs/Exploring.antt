-- The cover of an exploration: a row waits for a diagram of its own prefix, which gives it its arcs and further rows.
use Rattle.std.specs.Prelude.{◌≡◌, ℕ, zero, suc, ◌+◌, ◌-◌, nat_eq, nat_lt, nat_le, ℤ, ◌-ℤ◌, int_le, Bool, true, false, not, cond, ◌&&◌, List, [], ◌∷◌, ◌++◌, length, map, take, replicate, Option, Some, None, option_map}
use Rattle.dp_model.specs.Dp.{Dp}
use Rattle.dp_model.specs.Decisions.{below}
use Rattle.dp_model.specs.Numbers.{AtMost, add_some}
use Rattle.dp_model.specs.Prefixes.{IsSolution, value_of}
use Rattle.dp_laws.specs.declared.arc.DdArc.{DdArc}
use Rattle.dp_laws.specs.Diagrams.Nodes.{DdNode, DdLayers}
use Rattle.dp_laws.specs.Diagrams.Seen.{IsDiagram}
use Rattle.bound_cover.specs.declared.cover.CoverArc.{CoverArc}
use Rattle.bound_cover.specs.Covers.{CoverRow}
use Rattle.bound_cover.specs.Tests.{is_at_most}

-- no feasible solution has more than the claim; where it is none there is no feasible solution
abbrev pub HoldsAll : Dp → Option ℤ → Type 0
HoldsAll dp claim = (x : List ℕ) → IsSolution dp x → AtMost (value_of dp x) claim

-- the layer at a place, which is empty where there is none
abbrev pub layer_of : {X : Type 0} → List (List X) → ℕ → List X
layer_of [] j = []
layer_of (layer ∷ layers) zero = layer
layer_of (layer ∷ layers) (suc j) = layer_of layers j

-- best less a value
abbrev pub rest_of : Option ℤ → ℤ → Option ℤ
rest_of None value = None
rest_of (Some best) value = Some (best -ℤ value)

-- the greater of two numbers, where none is less than every number
abbrev pub greater_of : Option ℤ → Option ℤ → Option ℤ
greater_of None b = b
greater_of (Some a) None = Some a
greater_of (Some a) (Some b) = Some (cond (int_le a b) b a)

-- whether the layer at the depth is the first reduced one or stands below it
abbrev pub is_deep : Option ℕ → ℕ → Bool
is_deep None k = false
is_deep (Some depth) k = nat_le depth k

-- whether it is the last exact layer, just above the first reduced one
abbrev pub is_last_exact : Option ℕ → ℕ → Bool
is_last_exact None k = false
is_last_exact (Some depth) k = nat_eq depth (k + 1)

-- what the row of a node claims: best less its value, and below the last exact layer the suffix where that is greater
abbrev pub claim_of : Option ℤ → Bool → DdNode → Option ℤ
claim_of best deep node = cond deep (greater_of node.suffix (rest_of best node.value)) (rest_of best node.value)

-- whether the node's suffix leads above best, so that it gets a diagram of its own
abbrev pub leads_above : Option ℤ → DdNode → Bool
leads_above best node = not (is_at_most (add_some node.value node.suffix) best)

-- the arc with its target's number among all rows of the next layer, of which as many stand before
abbrev pub moved : ℕ → DdArc → CoverArc
moved before arc = record { decision = arc.decision; target = option_map (λ i. before + i) arc.target }

-- a node of the layer at depth k has arcs, but not at the last layer, and not where it waits
abbrev pub has_arcs : Dp → Option ℤ → Option ℕ → ℕ → DdNode → Bool
has_arcs dp best reduced k node = nat_lt k dp.vars && not (is_last_exact reduced k && leads_above best node)

-- the row of a node
abbrev pub row_for : Dp → Option ℤ → Option ℕ → ℕ → ℕ → DdNode → CoverRow
row_for dp best reduced k before node = record {
  bound = claim_of best (is_deep reduced k) node;
  words = node.row;
  arcs = cond (has_arcs dp best reduced k node) (Some (map (moved before) node.arcs)) None;
}

-- a row that waits for its arcs, by its number in its layer and its prefix
pub record Waiting : Type 0 where
  pub place : ℕ
  pub prefix : List ℕ

-- the rows, of which the one at the place gets arcs
abbrev pub with_arcs_at : ℕ → List CoverArc → List CoverRow → List CoverRow
with_arcs_at place arcs [] = []
with_arcs_at zero arcs (row ∷ rows) = record { bound = row.bound; words = row.words; arcs = Some arcs } ∷ rows
with_arcs_at (suc place) arcs (row ∷ rows) = row ∷ with_arcs_at place arcs rows

-- the arcs of the first node of a layer
abbrev pub arcs_of_first : List DdNode → List DdArc
arcs_of_first [] = []
arcs_of_first (node ∷ nodes) = node.arcs

-- whether each node of a layer waits for a diagram of its own
abbrev pub all_wait : Option ℤ → List DdNode → Bool
all_wait best [] = true
all_wait best (node ∷ nodes) = leads_above best node && all_wait best nodes

-- the layers of a diagram that get rows: all, but only those down to the last exact one where all its nodes wait
abbrev pub needed_layers : Option ℤ → ℕ → DdLayers → Option ℕ → List (List DdNode)
needed_layers best first d None = d.layers
needed_layers best first d (Some depth) = cond (all_wait best (layer_of d.layers (depth - 1 - first))) (take (depth - first) d.layers) d.layers

-- the cover's layer at depth j once the diagram of the waiting row stands in it: the row gets the arcs of the diagram's root,
-- and each further node gets a row after those that are there
abbrev pub explored_layer : Dp → Option ℤ → Waiting → DdLayers → List (List CoverRow) → ℕ → List CoverRow
explored_layer dp best q d rows j =
    cond (nat_lt j (length q.prefix)) (layer_of rows j)
    (cond (nat_eq j (length q.prefix))
    (with_arcs_at q.place (map (moved (length (layer_of rows (j + 1)))) (arcs_of_first (layer_of d.layers 0))) (layer_of rows j))
    (layer_of rows j ++ map (row_for dp best d.first_reduced j (length (layer_of rows (j + 1)))) (layer_of (needed_layers best (length q.prefix) d d.first_reduced) (j - length q.prefix))))

-- all layers of the cover with the diagram put in
abbrev pub explored : Dp → Option ℤ → Waiting → DdLayers → List (List CoverRow) → List (List CoverRow)
explored dp best q d rows = map (explored_layer dp best q d rows) (below (dp.vars + 1))

-- the nodes of a layer that wait, whose rows are numbered from the place on
abbrev pub waiting_in : Option ℤ → ℕ → List DdNode → List Waiting
waiting_in best place [] = []
waiting_in best place (node ∷ nodes) =
    cond (leads_above best node) (record { place = place; prefix = node.path } ∷ waiting_in best (place + 1) nodes) (waiting_in best (place + 1) nodes)

-- the rows that wait after a diagram was put in: of its last exact layer
abbrev pub waiting_after : Option ℤ → Waiting → DdLayers → List (List CoverRow) → Option ℕ → List Waiting
waiting_after best q d rows None = []
waiting_after best q d rows (Some depth) = waiting_in best (length (layer_of rows (depth - 1))) (layer_of d.layers (depth - 1 - length q.prefix))

-- the cover at the start: the root, which waits where there is something to decide
abbrev pub start_cover : Dp → Option ℤ → List (List CoverRow)
start_cover dp best = (record { bound = rest_of best dp.root_value; words = dp.root; arcs = None } ∷ []) ∷ replicate dp.vars []

-- the root waits where there is something to decide
abbrev pub start_waiting : Dp → List Waiting
start_waiting dp = cond (nat_eq dp.vars 0) [] (record { place = 0; prefix = [] } ∷ [])

-- the diagrams are put in one after another, each for the first row that waits, till nothing waits; this is the cover that is
-- left
abbrev pub Explores : Dp → Option ℤ → ℕ → List DdLayers → List (List CoverRow) → List Waiting → List (List CoverRow) → Type 0
Explores dp best w [] rows [] cover = rows ≡ cover
Explores dp best w [] rows (q ∷ rest) cover = ⊥
Explores dp best w (d ∷ ds) rows [] cover = ⊥
Explores dp best w (d ∷ ds) rows (q ∷ rest) cover =
    IsDiagram dp q.prefix w best d × Explores dp best w ds (explored dp best q d rows) (rest ++ waiting_after best q d rows d.first_reduced) cover

-- an exploration to the end
pub record IsExplored (dp : Dp) (claim : Option ℤ) (w : ℕ) (rows : List (List CoverRow)) (waiting : List Waiting) : Type 0 where
  pub diagrams : List DdLayers
  pub cover : List (List CoverRow)
  pub explores : Explores dp claim w diagrams rows waiting cover
