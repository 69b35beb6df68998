use Rattle.std.proofs.Common.{ap, ◌∙◌}
use Rattle.std.proofs.Common.{w64}
use Rattle.std.proofs.lemmas.Int.{to_z-of_z}
use Rattle.dp_model.specs.Dp.{Dp}
use Rattle.pair_rows.specs.Program.{program_of}
use Rattle.pair_problem.proofs.model.PairModelDpModel.root_value.Goals as goal

pub returns : goal.returns
returns g c = to_z-of_z w64 c.root_value.result (record { sfits = c.root_value.type_inv }) ∙ (c.root_value.ensures ∙ ap (λ (p : Dp). p.root_value) (ap program_of c.args.self.now.listed))
