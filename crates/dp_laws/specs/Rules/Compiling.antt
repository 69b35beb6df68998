-- A relaxed diagram, compiled layer by layer.
use Rattle.std.specs.Prelude.{ℕ, zero, suc, ◌+◌, ◌-◌, ◌*◌, ◌≤◌, nat_lt, ℤ, Bool, true, cond, ◌&&◌, List, [], ◌∷◌, length, map, take, Option, Some, None}
use Rattle.dp_model.specs.Dp.{Dp}
use Rattle.dp_model.specs.Reached.{Reached}
use Rattle.dp_laws.specs.Restricted.Beam.{is_reduced}
use Rattle.dp_laws.specs.Diagrams.Nodes.{DdNode, DdLayers}
use Rattle.dp_laws.specs.Diagrams.Seen.{suffix_from}
use Rattle.dp_laws.specs.Rules.Redirects.{with_redirected}
use Rattle.dp_laws.specs.Rules.Expanding.{new_layer, with_arcs}
use Rattle.dp_laws.specs.Rules.Pruning.{pruned_nodes, prune_redirects}
use Rattle.dp_laws.specs.Rules.Reducing.{keep_redirects, merged_layer, merge_redirects}

-- a layer with its arcs, and the next layer
pub record TwoLayers : Type 0 where
  pub above : List DdNode
  pub next : List DdNode

-- the layer at depth k with its arcs, and the next one
abbrev pub expand : Dp → ℕ → List DdNode → TwoLayers
expand dp k layer = record { above = with_arcs dp k (new_layer dp k layer) layer; next = new_layer dp k layer }

-- nodes of the next layer, at depth k, are struck and dominated
abbrev pub prune : Dp → ℕ → Option ℤ → TwoLayers → TwoLayers
prune dp k t two = record { above = with_redirected (prune_redirects dp k t [] 0 two.next) two.above; next = pruned_nodes dp k t [] 0 two.next }

-- of the next layer only the first nodes stay, as many as the width
abbrev pub keep_first : ℕ → TwoLayers → TwoLayers
keep_first w two = record { above = with_redirected (keep_redirects w two.next) two.above; next = take w two.next }

-- the next layer, at depth k, is merged to the width
abbrev pub merge_rest : Dp → ℕ → ℕ → TwoLayers → TwoLayers
merge_rest dp k w two = record { above = with_redirected (merge_redirects dp k w two.next) two.above; next = merged_layer dp k w two.next }

-- whether the layer at the depth has to be reduced
abbrev pub is_wide : Dp → ℕ → ℕ → ℕ → List DdNode → Bool
is_wide dp first w depth layer = is_reduced dp first depth && nat_lt w (length layer)

-- the layer cut to the width, where it is wider
abbrev pub reduced : Dp → ℕ → ℕ → ℕ → TwoLayers → TwoLayers
reduced dp first w k two = cond (is_wide dp first w k two.next) (merge_rest dp k w two) two

-- the layer at depth k with its arcs, and the next one as it stays
abbrev pub built : Dp → ℕ → ℕ → Option ℤ → ℕ → List DdNode → TwoLayers
built dp first w t k layer = reduced dp first w (k + 1) (prune dp (k + 1) t (expand dp k layer))

-- the layer at depth k and the m layers below it
abbrev pub compiled : Dp → ℕ → ℕ → Option ℤ → ℕ → ℕ → List DdNode → List (List DdNode)
compiled dp first w t k zero layer = layer ∷ []
compiled dp first w t k (suc m) layer =
    (built dp first w t k layer).above ∷ compiled dp first w t (k + 1) m (built dp first w t k layer).next

-- the least depth from k + 1 on at which one of the m layers below is reduced
abbrev pub first_reduced_below : Dp → ℕ → ℕ → Option ℤ → ℕ → ℕ → List DdNode → Option ℕ
first_reduced_below dp first w t k zero layer = None
first_reduced_below dp first w t k (suc m) layer =
    cond (is_wide dp first w (k + 1) (prune dp (k + 1) t (expand dp k layer)).next)
    (Some (k + 1))
    (first_reduced_below dp first w t (k + 1) m (built dp first w t k layer).next)

-- the first layer, or no nodes
abbrev pub first_of_layers : List (List DdNode) → List DdNode
first_of_layers [] = []
first_of_layers (layer ∷ layers) = layer

-- the layers from depth k on, with their suffixes
abbrev pub with_suffixes : Dp → ℕ → List (List DdNode) → List (List DdNode)
with_suffixes dp k [] = []
with_suffixes dp k (layer ∷ rest) =
    map (λ (node : DdNode). record node { suffix = suffix_from dp k (first_of_layers (with_suffixes dp (k + 1) rest)) node.arcs }) layer
    ∷ with_suffixes dp (k + 1) rest

-- a compilation starts from a prefix
abbrev pub start_layer : Reached → List DdNode
start_layer r = record { row = r.row; value = r.value; exact = true; arcs = []; path = r.decisions; suffix = None } ∷ []

-- the relaxed diagram of a prefix
abbrev pub relaxed : Dp → Reached → ℕ → Option ℤ → DdLayers
relaxed dp r w t = record {
  first = length r.decisions;
  layers = with_suffixes dp (length r.decisions) (compiled dp (length r.decisions) w t (length r.decisions) (dp.vars - length r.decisions) (start_layer r));
  first_reduced = first_reduced_below dp (length r.decisions) w t (length r.decisions) (dp.vars - length r.decisions) (start_layer r);
}

-- the next layer of a restricted diagram: the first ones, as many as the width, where it has to be reduced
abbrev pub kept_next : Dp → ℕ → ℕ → Option ℤ → ℕ → List DdNode → List DdNode
kept_next dp first w t k layer =
    cond (is_wide dp first w (k + 1) (prune dp (k + 1) t (expand dp k layer)).next)
    (take w (prune dp (k + 1) t (expand dp k layer)).next)
    (prune dp (k + 1) t (expand dp k layer)).next

-- the layer m steps below one at depth k, in a restricted diagram
abbrev pub restricted_below : Dp → ℕ → ℕ → Option ℤ → ℕ → ℕ → List DdNode → List DdNode
restricted_below dp first w t k zero layer = layer
restricted_below dp first w t k (suc m) layer = kept_next dp first w t (k + m) (restricted_below dp first w t k m layer)

-- a layer that is expanded has no more nodes than it has decisions for its nodes
abbrev pub LayersFit : Dp → Type 0
LayersFit dp = (k : ℕ) (layer : List DdNode) → length (expand dp k layer).next ≤ length layer * dp.choices k
