use Rattle.bound_cover.proofs.RowTurns.{row-fails, row-passes}
use Rattle.bound_cover.proofs.checks.rows_fault.Goals as goal

pub returns-then-is_some : goal.returns-then-is_some
returns-then-is_some g c = row-fails (g.M.DpModel.meaning (g.M.DpModel.numbers c.args.model.now)) c.args.k c.rows.i (g.N.Rows.rows c.args.next.now.rows.now) (g.L.Rows.rows c.args.here.now) c.row.result c.in-Some.row c.row_fault-why.result c.rows.invariant c.row.ensures c.in-Some.is c.row_fault-why.ensures c.if-is_some.ensures

pub rows-preserved : goal.rows-preserved
rows-preserved g c = row-passes (g.M.DpModel.meaning (g.M.DpModel.numbers c.args.model.now)) c.args.k c.rows.i (g.N.Rows.rows c.args.next.now.rows.now) (g.L.Rows.rows c.args.here.now) c.row.result c.in-Some.row c.row_fault-why.result c.rows.invariant c.row.ensures c.in-Some.is c.row_fault-why.ensures c.if-is_some.ensures
