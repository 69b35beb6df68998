use Rattle.std.proofs.Common.{◌≡◌, drop}
use Rattle.bound_cover.specs.Exploring.{all_wait}
use Rattle.relaxed_dd.specs.Shown.{layer_in}
use Rattle.cover_book.proofs.adding.all_wait.Given as goal

abbrev pub invariant-nodes : goal.invariant-nodes
invariant-nodes g l = all_wait l.claim (drop l.node (layer_in (g.D.ShownDiagram.layers l.diagram) l.depth)) ≡ all_wait l.claim (layer_in (g.D.ShownDiagram.layers l.diagram) l.depth)
