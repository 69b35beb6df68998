use Rattle.std.proofs.Common.{◌≡◌, ◌+◌, ◌≤◌, length}
use Rattle.serde_json.specs.View.{items_view}
use Rattle.table_model.specs.Document.{layers_from}
use Rattle.table_model.proofs.Layered.{onto}
use Rattle.table_model.proofs.document.layers.Given as goal

-- the layers so far and those that are left make all
abbrev pub invariant-layers : goal.invariant-layers
invariant-layers l = record {
  all : layers_from 0 (items_view l.values) ≡ onto l.layers.items (layers_from l.k (items_view l.left));
  few : l.k + length l.left ≤ 65;
}

abbrev pub decreases-layers : goal.decreases-layers
decreases-layers l = length l.left
