use Rattle.std.proofs.Common.{◌≡◌, ◌++◌, map, take}
use Rattle.bound_cover.specs.Exploring.{row_for}
use Rattle.relaxed_dd.specs.Shown.{layer_in}
use Rattle.cover_book.proofs.adding.add_nodes.Given as goal

abbrev pub invariant-nodes : goal.invariant-nodes
invariant-nodes g l = l.layer ≡ l.fn.layer ++ map (row_for (g.M.DpModel.meaning (g.M.DpModel.numbers l.model)) l.claim (g.D.ShownDiagram.layers l.diagram).first_reduced l.depth l.before) (take l.node (layer_in (g.D.ShownDiagram.layers l.diagram) l.depth))
