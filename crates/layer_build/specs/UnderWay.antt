-- What a diagram that is under way keeps.
use Rattle.std.specs.Prelude.{◌≡◌, ◌+◌, ◌-◌, ◌<◌, ◌≤◌, List, [], ◌∷◌, length, map}
use Rattle.dp_model.specs.Dp.{Dp}
use Rattle.dp_model.specs.Laws.{IsLawful}
use Rattle.dp_model.specs.Lists.{Each}
use Rattle.dp_model.specs.Prefixes.{IsPrefix}
use Rattle.dp_laws.specs.Diagrams.Nodes.{DdNode}
use Rattle.dp_laws.specs.Rules.Compiling.{TwoLayers}
use Rattle.dp_laws.specs.Rules.Within.{IsLayerWithin, AreWithin}
use Rattle.layer_build.specs.Layers.{SpaceView, IsPreparedFor, last_depth, last_layer}
use Rattle.layer_nodes.specs.Nodes.{told_of}

-- the last two layers; above the first one there is none
abbrev pub last_two : List (List DdNode) → TwoLayers
last_two [] = record { above = []; next = [] }
last_two (layer ∷ []) = record { above = []; next = layer }
last_two (above ∷ next ∷ []) = record { above = above; next = next }
last_two (layer ∷ above ∷ next ∷ rest) = last_two (above ∷ next ∷ rest)

-- the layers are those of a diagram of a lawful program that is under way: the numbers of the last two are small, the ranks and hashes are those
-- of the last one's states, and a last layer that is wider than the width has no merged node
pub record IsUnderWay (dp : Dp) (s : SpaceView) : Type 0 where
  pub lawful : IsLawful dp
  pub prepared : IsPreparedFor dp s
  pub prefix : IsPrefix dp s.prefix
  pub some : 1 ≤ length s.layers
  pub low : last_depth s ≤ dp.vars
  pub within : IsLayerWithin dp (last_depth s) s.width (last_layer s.layers)
  pub two : length s.prefix < last_depth s → AreWithin dp (last_depth s - 1) s.width (last_two s.layers)
  pub told : s.told ≡ map (λ (node : DdNode). told_of dp (last_depth s) node.row) (last_layer s.layers)
  pub unmerged : s.width < length (last_layer s.layers) → Each (λ (node : DdNode). 1 ≤ length node.path) (last_layer s.layers)
  pub few : length (last_layer s.layers) ≤ s.room
  pub one : last_depth s ≡ length s.prefix → length (last_layer s.layers) ≤ 1
  pub second : last_depth s ≡ length s.prefix + 1 → length (last_layer s.layers) ≤ dp.choices (length s.prefix)
