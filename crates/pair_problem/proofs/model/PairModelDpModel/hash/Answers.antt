use Rattle.std.proofs.Common.{ap, ◌∙◌}
use Rattle.dp_model.specs.Dp.{Dp}
use Rattle.pair_rows.specs.Program.{program_of}
use Rattle.pair_rows.proofs.Handing.{state-on}
use Rattle.pair_problem.proofs.model.PairModelDpModel.hash.Goals as goal

pub hash-requires : goal.hash-requires
hash-requires g c = state-on (ap program_of c.args.self.now.listed) c.args.k c.args.s.now c.requires

pub returns : goal.returns
returns g c = c.hash.ensures ∙ ap (λ (p : Dp). p.hash c.args.k c.args.s.now) (ap program_of c.args.self.now.listed)
