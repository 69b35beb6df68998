use Rattle.std.proofs.Common.{◌≡◌, ◌+◌, take}
use Rattle.std.specs.List.{sum_by}
use Rattle.relaxed_dd.specs.Shown.{layers_of}
use Rattle.cover_pages.specs.Sizes.{layer_words}
use Rattle.cover_pages.proofs.sizing.diagram_leaves.Given as goal

abbrev pub invariant-layers : goal.invariant-layers
invariant-layers l = l.rest + sum_by (layer_words l.words) (take l.i (layers_of l.diagram).layers) ≡ l.left
