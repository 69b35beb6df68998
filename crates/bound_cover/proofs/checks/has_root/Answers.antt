use Rattle.bound_cover.proofs.RowTurns.{root-found, root-not-yet}
use Rattle.bound_cover.proofs.checks.has_root.Goals as goal

pub returns-then-row_covers_root : goal.returns-then-row_covers_root
returns-then-row_covers_root g c =
    root-found (g.M.DpModel.meaning (g.M.DpModel.numbers c.args.model.now)) c.args.claim c.rows.i (g.L.Rows.rows c.args.here.now) c.row.result c.in-Some.row c.row_covers_root.result c.rows.invariant c.row.ensures c.in-Some.is c.row_covers_root.ensures c.if-row_covers_root.true

pub rows-preserved : goal.rows-preserved
rows-preserved g c =
    root-not-yet (g.M.DpModel.meaning (g.M.DpModel.numbers c.args.model.now)) c.args.claim c.rows.i (g.L.Rows.rows c.args.here.now) c.row.result c.in-Some.row c.row_covers_root.result c.rows.invariant c.row.ensures c.in-Some.is c.row_covers_root.ensures c.if-row_covers_root.false
