use Rattle.std.specs.Prelude.{◌≤◌}
use Rattle.std.proofs.Common.{ap, subst, sym}
use Rattle.dp_model.specs.Dp.{Dp}
use Rattle.pair_rows.specs.Program.{program_of}
use Rattle.pair_rows.proofs.Handing.{state-on}
use Rattle.pair_problem.proofs.model.PairModelDpModel.first_live.Goals as goal

pub first_live-requires : goal.first_live-requires
first_live-requires g c = subst (λ (p : Dp). c.args.k ≤ p.vars) (sym (ap program_of c.args.self.now.listed)) c.requires

pub returns-clause-cells : goal.returns-clause-cells
returns-clause-cells g c = subst (λ (p : Dp). c.first_live.result ≤ p.words) (ap program_of c.args.self.now.listed) c.first_live.ensures.cells

pub returns-clause-zeros : goal.returns-clause-zeros
returns-clause-zeros g c s state = c.first_live.ensures.zeros s (state-on (ap program_of c.args.self.now.listed) c.args.k s state)
