use Rattle.std.proofs.Common.{◌≡◌, drop}
use Rattle.bound_cover.specs.Verdicts.{has_root}
use Rattle.bound_cover.proofs.checks.has_root.Given as goal

abbrev pub invariant-rows : goal.invariant-rows
invariant-rows g l = has_root (g.M.DpModel.meaning (g.M.DpModel.numbers l.model)) l.claim (drop l.i (g.L.Rows.rows l.here)) ≡ has_root (g.M.DpModel.meaning (g.M.DpModel.numbers l.model)) l.claim (g.L.Rows.rows l.here)
