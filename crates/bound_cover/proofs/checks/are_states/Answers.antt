use Rattle.bound_cover.proofs.RowTurns.{state-missing, states-so-far}
use Rattle.bound_cover.proofs.checks.are_states.Goals as goal

pub returns-then-not-is_state_row : goal.returns-then-not-is_state_row
returns-then-not-is_state_row g c =
    state-missing (g.M.DpModel.meaning (g.M.DpModel.numbers c.args.model.now)) c.args.k c.rows.i (g.L.Rows.rows c.args.rows.now) c.row.result c.in-Some.row c.is_state_row.result c.rows.invariant c.row.ensures c.in-Some.is c.is_state_row.ensures c.if-not-is_state_row.true

pub rows-preserved : goal.rows-preserved
rows-preserved g c =
    states-so-far (g.M.DpModel.meaning (g.M.DpModel.numbers c.args.model.now)) c.args.k c.rows.i (g.L.Rows.rows c.args.rows.now) c.row.result c.in-Some.row c.is_state_row.result c.rows.invariant c.row.ensures c.in-Some.is c.is_state_row.ensures c.if-not-is_state_row.false
