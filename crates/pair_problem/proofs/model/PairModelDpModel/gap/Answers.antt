use Rattle.std.proofs.Common.{ap, ◌∙◌}
use Rattle.dp_model.specs.Dp.{Dp}
use Rattle.pair_rows.specs.Program.{program_of}
use Rattle.pair_rows.proofs.Handing.{state-on}
use Rattle.pair_problem.proofs.model.PairModelDpModel.gap.Goals as goal

pub gap-requires : goal.gap-requires
gap-requires g c = record {
  covering = state-on (ap program_of c.args.self.now.listed) c.args.k c.args.a.now c.requires.covering;
  state = state-on (ap program_of c.args.self.now.listed) c.args.k c.args.s.now c.requires.state;
}

pub returns : goal.returns
returns g c = c.gap.ensures ∙ ap (λ (p : Dp). p.gap c.args.k c.args.a.now c.args.s.now) (ap program_of c.args.self.now.listed)
