use Rattle.cover_book.proofs.Waits.{IsWaitingTo}
use Rattle.cover_book.proofs.waiting.add_waiting.Given as goal

abbrev pub invariant-nodes : goal.invariant-nodes
invariant-nodes g l = IsWaitingTo (g.M.DpModel.meaning (g.M.DpModel.numbers l.model)) l.claim (g.D.ShownDiagram.layers l.diagram) l.depth l.start l.node l.fn.waiting.items l.waiting.items
