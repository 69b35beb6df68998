use Rattle.std.proofs.Common.{ap, ◌∙◌, sym}
use Rattle.dp_model.specs.Dp.{Dp}
use Rattle.pair_rows.specs.Program.{program_of}
use Rattle.pair_problem.proofs.model.PairModelDpModel.root.Goals as goal

pub root-requires : goal.root-requires
root-requires g c = c.requires ∙ ap (λ (p : Dp). p.words) (sym (ap program_of c.args.self.now.listed))

pub returns : goal.returns
returns g c = c.root.ensures ∙ ap (λ (p : Dp). p.root) (ap program_of c.args.self.now.listed)
