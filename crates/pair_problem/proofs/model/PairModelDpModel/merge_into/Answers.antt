use Rattle.std.proofs.Common.{ap, ◌∙◌}
use Rattle.dp_model.specs.Dp.{Dp}
use Rattle.pair_rows.specs.Program.{program_of}
use Rattle.pair_rows.proofs.Handing.{state-on}
use Rattle.pair_problem.proofs.model.PairModelDpModel.merge_into.Goals as goal

pub merge_into-requires : goal.merge_into-requires
merge_into-requires g c = record {
  kept = state-on (ap program_of c.args.self.now.listed) c.args.k c.args.acc.now c.requires.kept;
  state = state-on (ap program_of c.args.self.now.listed) c.args.k c.args.s.now c.requires.state;
}

pub returns : goal.returns
returns g c = c.merge_into.ensures ∙ ap (λ (p : Dp). p.merged c.args.k c.args.acc.now c.args.s.now) (ap program_of c.args.self.now.listed)
