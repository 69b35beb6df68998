use Rattle.bound_cover.specs.Stored.{shown_row}
use Rattle.bound_cover.proofs.Walking.{IsWalked}
use Rattle.bound_cover.proofs.checks.first_decision_fault.Given as goal

abbrev pub invariant-decisions : goal.invariant-decisions
invariant-decisions g l = IsWalked (g.M.DpModel.meaning (g.M.DpModel.numbers l.model)) l.at.layer l.at.number (g.N.Rows.rows l.next.rows.now) (shown_row l.at.row) l.at.row.arcs.now l.place l.decision
