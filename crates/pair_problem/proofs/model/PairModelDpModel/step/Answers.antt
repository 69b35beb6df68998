use Rattle.std.proofs.Common.{ap, ◌∙◌, sym}
use Rattle.dp_model.specs.Dp.{Dp}
use Rattle.pair_rows.specs.Program.{program_of}
use Rattle.pair_rows.proofs.Handing.{test-on, allowed-on}
use Rattle.pair_problem.proofs.model.PairModelDpModel.step.Goals as goal

pub step-requires : goal.step-requires
step-requires g c = record {
  state = test-on (ap program_of c.args.self.now.listed) c.args.k c.args.s.now c.requires.state;
  allowed = allowed-on (ap program_of c.args.self.now.listed) c.args.k c.args.s.now c.args.d c.requires.allowed;
  cells = c.requires.cells ∙ ap (λ (p : Dp). p.words) (sym (ap program_of c.args.self.now.listed));
}

pub returns : goal.returns
returns g c = c.step.ensures ∙ ap (λ (p : Dp). p.step c.args.k c.args.s.now c.args.d) (ap program_of c.args.self.now.listed)
