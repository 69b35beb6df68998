use Rattle.std.proofs.Common.{ap, ◌∙◌}
use Rattle.dp_model.specs.Dp.{Dp}
use Rattle.pair_rows.specs.Program.{program_of}
use Rattle.pair_problem.proofs.model.PairModelDpModel.vars.Goals as goal

pub returns : goal.returns
returns g c = c.vars.ensures ∙ ap (λ (p : Dp). p.vars) (ap program_of c.args.self.now.listed)
