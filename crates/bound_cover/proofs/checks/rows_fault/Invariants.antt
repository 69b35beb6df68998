use Rattle.std.proofs.Common.{◌≡◌, drop}
use Rattle.bound_cover.specs.Verdicts.{rows_fault}
use Rattle.bound_cover.proofs.checks.rows_fault.Given as goal

abbrev pub invariant-rows : goal.invariant-rows
invariant-rows g l =
    rows_fault (g.M.DpModel.meaning (g.M.DpModel.numbers l.model)) l.k (g.N.Rows.rows l.next.rows.now) l.i (drop l.i (g.L.Rows.rows l.here)) ≡ rows_fault (g.M.DpModel.meaning (g.M.DpModel.numbers l.model)) l.k (g.N.Rows.rows l.next.rows.now) 0 (g.L.Rows.rows l.here)
