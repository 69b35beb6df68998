-- The numbers of a diagram's layers.
use Rattle.std.specs.Prelude.{ℕ, ◌+◌, List, [], ◌∷◌}
use Rattle.dp_model.specs.Dp.{Dp}
use Rattle.dp_model.specs.Lists.{Each}
use Rattle.dp_laws.specs.Diagrams.Nodes.{DdNode}
use Rattle.dp_laws.specs.Rules.Within.{IsLayerWithin, IsArcWithin}

-- the numbers of the layers from depth k on are within the bounds that the depth gives
abbrev pub AreLayersWithin : Dp → ℕ → ℕ → List (List DdNode) → Type 0
AreLayersWithin dp w k [] = Unit {0}
AreLayersWithin dp w k (layer ∷ []) = IsLayerWithin dp k w layer
AreLayersWithin dp w k (layer ∷ next ∷ rest) = IsLayerWithin dp k w layer × (Each (λ node. Each (IsArcWithin k next node) node.arcs) layer × AreLayersWithin dp w (k + 1) (next ∷ rest))
