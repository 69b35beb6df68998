use Rattle.std.proofs.Common.{◌≡◌, drop}
use Rattle.bound_cover.specs.Tests.{are_states}
use Rattle.bound_cover.proofs.checks.are_states.Given as goal

abbrev pub invariant-rows : goal.invariant-rows
invariant-rows g l = are_states (g.M.DpModel.meaning (g.M.DpModel.numbers l.model)) l.k (drop l.i (g.L.Rows.rows l.rows)) ≡ are_states (g.M.DpModel.meaning (g.M.DpModel.numbers l.model)) l.k (g.L.Rows.rows l.rows)
