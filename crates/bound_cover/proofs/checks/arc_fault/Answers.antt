use Rattle.std.proofs.Common.{◌+◌}
use Rattle.bound_cover.proofs.RowTurns.{state-at}
use Rattle.bound_cover.proofs.checks.arc_fault.Goals as goal

pub row_arc_fault-requires-clause-states : goal.row_arc_fault-requires-clause-states
row_arc_fault-requires-clause-states g c κs within =
    state-at (g.M.DpModel.meaning (g.M.DpModel.numbers c.args.model.now)) (c.args.at.layer + 1) c.in-Some.place (g.N.Rows.rows c.args.next.now.rows.now) c.row.result c.args.next.now.known c.requires.states c.row.ensures
