use Rattle.std.proofs.Common.{◌≡◌, ◌+◌, take}
use Rattle.std.specs.List.{sum_by}
use Rattle.relaxed_dd.specs.Shown.{layers_of, layer_in}
use Rattle.cover_pages.specs.Sizes.{node_words}
use Rattle.cover_pages.proofs.sizing.layer_leaves.Given as goal

abbrev pub invariant-nodes : goal.invariant-nodes
invariant-nodes l = l.rest + sum_by (node_words l.words) (take l.node (layer_in (layers_of l.diagram) l.depth)) ≡ l.left
