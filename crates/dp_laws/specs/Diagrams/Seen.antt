-- What a relaxed diagram keeps, as its readers show it.
use Rattle.std.specs.Prelude.{◌≡◌, ℕ, ◌+◌, ◌-◌, ◌≤◌, nat_eq, nat_lt, ℤ, pos, ◌+ℤ◌, ◌≤ℤ◌, Bool, true, false, not, cond, ◌&&◌, ◌||◌, List, [], ◌∷◌, length, map, filter, take, slice_get, Option, Some, None, IsTrue, option_and_then, unwrap_or, ◌⊎◌}
use Rattle.std.specs.List.{flat_map, filter_map}
use Rattle.dp_model.specs.Dp.{Dp}
use Rattle.dp_model.specs.Decisions.{below}
use Rattle.dp_model.specs.Gaps.{is_struck_by}
use Rattle.dp_model.specs.Lists.{Each}
use Rattle.dp_model.specs.Numbers.{AtMost, add_some, greatest}
use Rattle.dp_model.specs.Prefixes.{IsPrefix, state_of, value_of}
use Rattle.dp_model.specs.Rows.{row_same}
use Rattle.dp_laws.specs.Restricted.Beam.{is_reduced}
use Rattle.dp_laws.specs.Restricted.Beams.{layers, wide}
use Rattle.dp_laws.specs.declared.arc.DdArc.{DdArc}
use Rattle.dp_laws.specs.Diagrams.Nodes.{DdNode, DdLayers, as_member}

-- the decisions that are allowed at the layer, of which the last layer has none
abbrev pub decisions_at : Dp → ℕ → List ℤ → List ℕ
decisions_at dp k s = cond (nat_lt k dp.vars) (filter (dp.allowed k s) (below (dp.choices k))) []

-- a node has one arc for each allowed decision, with its gain
pub record HasArcs (dp : Dp) (k : ℕ) (node : DdNode) : Type 0 where
  pub decisions : map (λ arc. arc.decision) node.arcs ≡ decisions_at dp k node.row
  pub gains : Each (λ arc. arc.gain ≡ dp.gain k node.row arc.decision) node.arcs

-- the gap is there and at most the number
abbrev pub CoversWithin : Option ℤ → ℤ → Type 0
CoversWithin None most = ⊥
CoversWithin (Some gap) most = gap ≤ℤ most

-- the target covers the state that the arc makes, within what the arc is longer
abbrev pub LeadsTo : Dp → ℕ → DdNode → DdArc → Option DdNode → Type 0
LeadsTo dp k source arc None = ⊥
LeadsTo dp k source arc (Some target) = CoversWithin (dp.gap (k + 1) target.row (dp.step k source.row arc.decision)) arc.longer

-- an arc leads to its target; without one, its state has no rough bound or one that lifts it to no more than the threshold
abbrev pub Leads : Dp → ℕ → Option ℤ → DdNode → List DdNode → DdArc → Option ℕ → Type 0
Leads dp k t source next arc None = IsTrue (is_struck_by (source.value +ℤ arc.gain) (dp.rough (k + 1) (dp.step k source.row arc.decision)) t)
Leads dp k t source next arc (Some place) = LeadsTo dp k source arc (slice_get next place)

-- whether the option is this place
abbrev pub is_place : ℕ → Option ℕ → Bool
is_place j None = false
is_place j (Some i) = nat_eq i j

-- the lengths of the arcs from a layer to the place j of the next one
abbrev pub lengths_into : List DdNode → ℕ → List ℤ
lengths_into above j =
    flat_map (λ node. map (λ arc. node.value +ℤ (arc.gain +ℤ arc.longer)) (filter (λ arc. is_place j arc.target) node.arcs)) above

-- the nodes from the place j on have the greatest of the lengths to them
abbrev pub HaveValues : List DdNode → ℕ → List DdNode → Type 0
HaveValues above j [] = Unit {0}
HaveValues above j (node ∷ next) = (Some node.value ≡ greatest (lengths_into above j)) × HaveValues above (j + 1) next

-- the kept path is a prefix with the node's row and value, which leads through p to the node's depth
pub record IsReachedBy (dp : Dp) (p : List ℕ) (k : ℕ) (node : DdNode) : Type 0 where
  pub prefix : IsPrefix dp node.path
  pub depth : length node.path ≡ k
  pub begins : take (length p) node.path ≡ p
  pub row : node.row ≡ state_of dp node.path
  pub value : node.value ≡ value_of dp node.path

-- the suffix of the node at a place, or none
abbrev pub suffix_at : List DdNode → Option ℕ → Option ℤ
suffix_at next place = option_and_then (λ i. option_and_then (λ node. node.suffix) (slice_get next i)) place

-- the greatest length of a path to the last layer, lengthenings included, or none where there is no such path
abbrev pub suffix_from : Dp → ℕ → List DdNode → List DdArc → Option ℤ
suffix_from dp k next arcs =
    cond (nat_lt k dp.vars)
    (greatest (filter_map (λ arc. add_some (arc.gain +ℤ arc.longer) (suffix_at next arc.target)) arcs))
    (Some (pos 0))

-- a gain from the node leads to no more than the threshold, or is no more than the suffix
abbrev pub IsBounded : Option ℤ → DdNode → ℤ → Type 0
IsBounded t node gain = AtMost (node.value +ℤ gain) t ⊎ AtMost gain node.suffix

-- whether an exact node's row comes again among exact ones
abbrev pub repeats : DdNode → List DdNode → Bool
repeats node [] = false
repeats node (other ∷ rest) = (node.exact && (other.exact && row_same node.row other.row)) || repeats node rest

-- no two exact nodes have one row
abbrev pub are_distinct : List DdNode → Bool
are_distinct [] = true
are_distinct (node ∷ rest) = not (repeats node rest) && are_distinct rest

-- what a layer at depth k and the next one keep
pub record IsLayer (dp : Dp) (p : List ℕ) (w : ℕ) (t : Option ℤ) (k : ℕ) (layer next : List DdNode) : Type 0 where
  pub states : Each (λ node. IsTrue (dp.is_state k node.row)) layer
  pub distinct : IsTrue (are_distinct layer)
  pub arcs : Each (HasArcs dp k) layer
  pub leads : Each (λ node. Each (λ arc. Leads dp k t node next arc arc.target) node.arcs) layer
  pub values : HaveValues layer 0 next
  pub exact : Each (λ node. IsTrue node.exact → IsReachedBy dp p k node) layer
  pub suffixes : Each (λ node. node.suffix ≡ suffix_from dp k next node.arcs) layer
  pub narrow : IsTrue (is_reduced dp (length p) k) → length layer ≤ w

-- the layers from depth k on are those of a diagram
abbrev pub AreLayers : Dp → List ℕ → ℕ → Option ℤ → ℕ → List (List DdNode) → Type 0
AreLayers dp p w t k [] = Unit {0}
AreLayers dp p w t k (layer ∷ []) = IsLayer dp p w t k layer []
AreLayers dp p w t k (layer ∷ next ∷ rest) = IsLayer dp p w t k layer next × AreLayers dp p w t (k + 1) (next ∷ rest)

-- how many layers stand above the first reduced one
abbrev pub exact_layers : ℕ → ℕ → Option ℕ → ℕ
exact_layers n first None = n - first + 1
exact_layers n first (Some depth) = depth - first

-- no node has a greater value than one before it
abbrev pub FallFrom : List DdNode → Type 0
FallFrom [] = Unit {0}
FallFrom (node ∷ rest) = Each (λ (other : DdNode). other.value ≤ℤ node.value) rest × FallFrom rest

-- a diagram as seen: the layers below p for the width w and the threshold t; above the first reduced one they are those of
-- the restricted diagram, and the last one falls in value
pub record IsDiagram (dp : Dp) (p : List ℕ) (w : ℕ) (t : Option ℤ) (d : DdLayers) : Type 0 where
  pub first : d.first ≡ length p
  pub depth : length d.layers ≡ dp.vars - length p + 1
  pub layer : AreLayers dp p w t (length p) d.layers
  pub first_reduced : d.first_reduced ≡ wide dp p w t
  pub above : map (map as_member) (take (exact_layers dp.vars (length p) d.first_reduced) d.layers)
      ≡ map (map (λ r. Some r)) (take (exact_layers dp.vars (length p) d.first_reduced) (layers dp p w t))
  pub order : FallFrom (unwrap_or (slice_get d.layers (dp.vars - length p)) [])
