use Rattle.std.proofs.Common.{◌≡◌, map, take}
use Rattle.serde_json.specs.View.{view}
use Rattle.table_model.specs.Printing.{layer_tree}
use Rattle.table_model.proofs.printing.layers_value.Given as goal

-- the layers so far
abbrev pub invariant-layers : goal.invariant-layers
invariant-layers l = map view l.values.items ≡ map layer_tree (take l.layer-index l.layers)
