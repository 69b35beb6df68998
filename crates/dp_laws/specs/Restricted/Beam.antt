-- One layer of a restricted diagram from the layer above it.
use Rattle.std.specs.Prelude.{ℕ, zero, suc, ◌+◌, nat_lt, nat_le, ℤ, Bool, false, cond, ◌&&◌, List, [], ◌∷◌, length, take, Option}
use Rattle.dp_model.specs.Dp.{Dp}
use Rattle.dp_model.specs.Reached.{Reached}
use Rattle.dp_laws.specs.Restricted.Extensions.{all_joined, candidates}
use Rattle.dp_laws.specs.Restricted.ReductionOrder.{in_order}
use Rattle.dp_laws.specs.Restricted.Leaders.{unstruck, undominated}

-- the next layer, of which nothing is struck yet: of each state the best candidate, in the reduction order
abbrev pub expanded : Dp → ℕ → List Reached → List Reached
expanded dp k layer = in_order dp (k + 1) (all_joined [] (candidates dp k layer))

-- what is left of a layer in order
abbrev pub pruned : Dp → ℕ → Option ℤ → List Reached → List Reached
pruned dp k t layer = undominated dp k [] (unstruck dp k t layer)

-- the next layer, before it is reduced to a width
abbrev pub whole_layer : Dp → ℕ → Option ℤ → List Reached → List Reached
whole_layer dp k t layer = pruned dp (k + 1) t (expanded dp k layer)

-- whether a layer is reduced to the width: from the second below the first depth to the last but one of all
abbrev pub is_reduced : Dp → ℕ → ℕ → Bool
is_reduced dp first depth = nat_le (first + 2) depth && nat_lt depth dp.vars

-- a layer with the first of its members, as many as the width, where it is reduced
abbrev pub reduced_to : Dp → ℕ → ℕ → ℕ → List Reached → List Reached
reduced_to dp w first depth layer = cond (is_reduced dp first depth) (take w layer) layer

-- the layer m steps below the prefix
abbrev pub layer_below : Dp → Reached → ℕ → Option ℤ → ℕ → List Reached
layer_below dp r w t zero = r ∷ []
layer_below dp r w t (suc m) =
    reduced_to dp w (length r.decisions) (length r.decisions + m + 1) (whole_layer dp (length r.decisions + m) t (layer_below dp r w t m))

-- whether the width takes something from the layer m steps below the prefix
abbrev pub is_too_wide : Dp → Reached → ℕ → Option ℤ → ℕ → Bool
is_too_wide dp r w t zero = false
is_too_wide dp r w t (suc m) =
    is_reduced dp (length r.decisions) (length r.decisions + m + 1) && nat_lt w (length (whole_layer dp (length r.decisions + m) t (layer_below dp r w t m)))
