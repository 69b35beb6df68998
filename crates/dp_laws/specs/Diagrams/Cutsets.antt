-- The children that a diagram leaves, and the solution that it finds.
use Rattle.std.specs.Prelude.{ℕ, ◌+◌, ◌-◌, ℤ, pos, ◌+ℤ◌, int_le, Bool, true, false, not, cond, ◌&&◌, ◌||◌, List, [], ◌∷◌, ◌++◌, drop, map, slice_get, Option, Some, None, option_map, unwrap_or}
use Rattle.std.specs.List.{cons_option}
use Rattle.dp_model.specs.Solution.{Solution}
use Rattle.dp_model.specs.Decisions.{begins}
use Rattle.dp_model.specs.Dp.{Dp}
use Rattle.dp_model.specs.Subproblem.{Subproblem}
use Rattle.dp_model.specs.declared.cut_kind.CutKind.{CutKind}
use Rattle.dp_model.specs.declared.cut_kind.CutKind.TheVariants.{LastExactLayer, Frontier}
use Rattle.dp_laws.specs.declared.arc.DdArc.{DdArc}
use Rattle.dp_laws.specs.Diagrams.Nodes.{DdNode, DdLayers, node_at}

-- the lesser of two numbers, or none where one of them is none
abbrev pub lesser_of : Option ℤ → Option ℤ → Option ℤ
lesser_of None b = None
lesser_of (Some a) None = None
lesser_of (Some a) (Some b) = Some (cond (int_le a b) a b)

-- the bound of a node as a child: its value and the lesser of suffix and rough bound; none without either
abbrev pub bound_of : Dp → ℕ → DdNode → Option ℤ
bound_of dp k node = option_map (λ more. node.value +ℤ more) (lesser_of node.suffix (dp.rough k node.row))

-- a child: the depth of its node, the node's place in the layer, and its bound
pub record ChildAt : Type 0 where
  pub depth : ℕ
  pub place : ℕ
  pub bound : ℤ

-- of a layer at depth k, from its place i on, the nodes that pass the test and have a bound
abbrev pub places_where : (DdNode → Bool) → Dp → ℕ → ℕ → List DdNode → List ChildAt
places_where test dp k i [] = []
places_where test dp k i (node ∷ nodes) =
    cons_option (cond (test node) (option_map (λ bound. record { depth = k; place = i; bound = bound }) (bound_of dp k node)) None) (places_where test dp k (i + 1) nodes)

-- the last exact layer: the nodes just above the first reduced one; where nothing is reduced there is none
abbrev pub last_exact_at : Dp → DdLayers → Option ℕ → List ChildAt
last_exact_at dp d None = []
last_exact_at dp d (Some depth) = places_where (λ node. true) dp (depth - 1) 0 (unwrap_or (slice_get d.layers (depth - 1 - d.first)) [])

-- whether there is a node, and it is inexact
abbrev pub is_inexact : Option DdNode → Bool
is_inexact None = false
is_inexact (Some node) = not node.exact

-- whether an arc leads to an inexact node
abbrev pub leads_out : List DdNode → Option ℕ → Bool
leads_out next None = false
leads_out next (Some place) = is_inexact (slice_get next place)

-- whether an arc leads to an inexact node
abbrev pub leaves : List DdNode → List DdArc → Bool
leaves next [] = false
leaves next (arc ∷ arcs) = leads_out next arc.target || leaves next arcs

-- an exact node with an arc to an inexact one
abbrev pub is_border : List DdNode → DdNode → Bool
is_border next node = node.exact && leaves next node.arcs

-- the borders of the layers from depth k on, by depth
abbrev pub all_borders_at : Dp → ℕ → List (List DdNode) → List ChildAt
all_borders_at dp k [] = []
all_borders_at dp k (layer ∷ []) = []
all_borders_at dp k (layer ∷ next ∷ rest) = places_where (is_border next) dp k 0 layer ++ all_borders_at dp (k + 1) (next ∷ rest)

-- whether the decisions pass through one of those on the list, whose decisions the function tells
abbrev pub passes : {X : Type 0} → (X → List ℕ) → List X → List ℕ → Bool
passes path [] p = false
passes path (c ∷ cs) p = begins (path c) p || passes path cs p

-- those that are kept so far leave out what passes through one of them
abbrev pub outermost : {X : Type 0} → (X → List ℕ) → List X → List X → List X
outermost path kept [] = []
outermost path kept (c ∷ cs) = cond (passes path kept (path c)) (outermost path kept cs) (c ∷ outermost path (c ∷ kept) cs)

-- the subproblem of a node, with a bound
abbrev pub with_bound : Option DdNode → ℤ → Subproblem
with_bound None bound = record { decisions = []; row = []; value = pos 0; bound = bound }
with_bound (Some node) bound = record { decisions = node.path; row = node.row; value = node.value; bound = bound }

-- the subproblem of a child: row, value and path of its node, and its bound
abbrev pub child_from : DdLayers → ChildAt → Subproblem
child_from d c = with_bound (node_at d c.depth c.place) c.bound

-- the decisions of a child
abbrev pub path_at : DdLayers → ChildAt → List ℕ
path_at d c = (child_from d c).decisions

-- the frontier: below the first layer the exact nodes with an arc to an inexact one, none whose path passes through another
abbrev pub frontier_at : Dp → DdLayers → List ChildAt
frontier_at dp d = outermost (path_at d) [] (all_borders_at dp (d.first + 1) (drop 1 d.layers))

-- the children of a diagram, by their places
abbrev pub children_at : Dp → DdLayers → CutKind → List ChildAt
children_at dp d LastExactLayer = last_exact_at dp d d.first_reduced
children_at dp d Frontier = frontier_at dp d

-- and as subproblems
abbrev pub children_of : Dp → DdLayers → CutKind → List Subproblem
children_of dp d kind = map (child_from d) (children_at dp d kind)

-- the first exact node of a layer, as a solution
abbrev pub first_exact : List DdNode → Option Solution
first_exact [] = None
first_exact (node ∷ nodes) = cond node.exact (Some (record { decisions = node.path; value = node.value })) (first_exact nodes)

-- the found solution: the first exact node of the last layer
abbrev pub found_in : Dp → DdLayers → Option Solution
found_in dp d = first_exact (unwrap_or (slice_get d.layers (dp.vars - d.first)) [])
