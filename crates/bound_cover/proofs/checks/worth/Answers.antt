use Rattle.std.proofs.Common.{sym, ◌∙◌}
use Rattle.bound_cover.proofs.Worths.{found-value, not-whole}
use Rattle.bound_cover.proofs.checks.worth.Goals as goal

pub returns-then-assignment-vars : goal.returns-then-assignment-vars
returns-then-assignment-vars g c = sym (not-whole (g.M.DpModel.meaning (g.M.DpModel.numbers c.args.model.now)) c.args.assignment.now (λ e. c.if-assignment-vars.true (e ∙ sym c.vars.ensures)))

pub returns : goal.returns
returns g c = sym (found-value (g.M.DpModel.meaning (g.M.DpModel.numbers c.args.model.now)) c.args.assignment.now _ c.walk.result c.walk.ensures (c.if-assignment-vars.false ∙ c.vars.ensures))
