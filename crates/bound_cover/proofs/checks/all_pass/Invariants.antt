use Rattle.bound_cover.specs.Stored.{shown_row}
use Rattle.bound_cover.proofs.Passing.{IsPassing}
use Rattle.bound_cover.proofs.checks.all_pass.Given as goal

abbrev pub invariant-decisions : goal.invariant-decisions
invariant-decisions g l = IsPassing (g.M.DpModel.meaning (g.M.DpModel.numbers l.model)) l.at.layer l.at.number (g.N.Rows.rows l.next.rows.now) (shown_row l.at.row) l.at.row.arcs.now l.place l.decision
