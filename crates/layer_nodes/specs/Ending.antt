-- The suffixes of the nodes of a layer, from those of the next one.
use Rattle.std.specs.Prelude.{ℕ, ◌+◌, ◌≤◌, ℤ, pos, ◌+ℤ◌, List, length, map, take, drop, slice_get, Option, Some, None, option_and_then}
use Rattle.std.specs.List.{filter_map}
use Rattle.dp_model.specs.Lists.{Each}
use Rattle.dp_model.specs.Numbers.{IsSmall, add_some, greatest}
use Rattle.dp_laws.specs.declared.arc.DdArc.{DdArc}
use Rattle.dp_laws.specs.Rules.Within.{IsBetween}
use Rattle.layer_nodes.specs.declared.node.Node.{Node}
use Rattle.layer_nodes.specs.Nodes.{NodeView, LayerView}

-- the suffix of a target among the nodes with these suffixes
abbrev pub suffix_of : List (Option ℤ) → Option ℕ → Option ℤ
suffix_of suffixes target = option_and_then (λ i. option_and_then (λ s. s) (slice_get suffixes i)) target

-- the lengths of the arcs, each with the suffix of its target
abbrev pub lengths : List (Option ℤ) → List DdArc → List ℤ
lengths suffixes arcs = filter_map (λ arc. add_some (arc.gain +ℤ arc.longer) (suffix_of suffixes arc.target)) arcs

-- the arc is short enough for sums
pub record MayAdd (arc : DdArc) : Type 0 where
  pub gain : IsSmall arc.gain
  pub longer : IsBetween 3100 3100 arc.longer

-- the suffix is short enough for sums
abbrev pub MayFollow : Option ℤ → Type 0
MayFollow None = Unit {0}
MayFollow (Some s) = IsBetween 3100 3100 s

-- there is a suffix, which may follow
abbrev pub IsThere : Option (Option ℤ) → Type 0
IsThere None = ⊥
IsThere (Some suffix) = MayFollow suffix

-- the target is among the nodes with these suffixes, and its own is short enough for sums
abbrev pub MayLead : List (Option ℤ) → Option ℕ → Type 0
MayLead suffixes None = Unit {0}
MayLead suffixes (Some place) = IsThere (slice_get suffixes place)

-- the node with the greatest length of a path, where the nodes of the next layer have these suffixes
abbrev pub ended : List (Option ℤ) → NodeView → NodeView
ended suffixes node = record node { suffix = greatest (lengths suffixes node.arcs) }

-- the layer above one whose nodes have these suffixes
abbrev pub ended_layer : List (Option ℤ) → LayerView → LayerView
ended_layer suffixes layer = record layer { nodes = map (ended suffixes) layer.nodes }

-- a node of the last layer
abbrev pub at_end : NodeView → NodeView
at_end node = record node { suffix = Some (pos 0) }

-- the last layer
abbrev pub ended_last : LayerView → LayerView
ended_last layer = record layer { nodes = map at_end layer.nodes }

-- the suffixes of nodes in memory
abbrev pub suffixes_in : List Node → List (Option ℤ)
suffixes_in nodes = map (λ (node : Node). node.suffix) nodes

-- the arcs of a node
abbrev pub arcs_in : {X : Type 0} → List X → Node → List X
arcs_in arcs node = take node.arcs (drop node.first_arc arcs)

-- its arcs are some of the layer's, and with the suffixes of their targets they may be added up
pub record MayEnd (arcs : List DdArc) (suffixes : List (Option ℤ)) (node : Node) : Type 0 where
  pub lie : node.first_arc + node.arcs ≤ length arcs
  pub add : Each MayAdd (arcs_in arcs node)
  pub lead : Each (λ arc. MayLead suffixes arc.target) (arcs_in arcs node)

-- the node in memory with its suffix
abbrev pub ended_in : List DdArc → List (Option ℤ) → Node → Node
ended_in arcs suffixes node = record node { suffix = greatest (lengths suffixes (arcs_in arcs node)) }

-- a node of the last layer
abbrev pub at_end_in : Node → Node
at_end_in node = record node { suffix = Some (pos 0) }
