use Rattle.std.proofs.Common.{◌<◌}
use Rattle.cover_book.specs.Adding.{AreAdded}
use Rattle.cover_book.proofs.adding.add_layers.Given as goal

abbrev pub invariant-layers : goal.invariant-layers
invariant-layers g l = record {
  added : AreAdded (g.M.DpModel.meaning (g.M.DpModel.numbers l.model)) l.claim (g.D.ShownDiagram.layers l.diagram) l.depth l.fn.rows.items l.rows.items;
  deep : l.first < l.depth;
}
