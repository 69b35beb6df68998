use Rattle.std.proofs.Common.{ap, ◌∙◌}
use Rattle.std.proofs.Common.{w64}
use Rattle.std.proofs.lemmas.Int.{to_z-of_z}
use Rattle.dp_model.specs.Dp.{Dp}
use Rattle.pair_rows.specs.Program.{program_of}
use Rattle.pair_rows.proofs.Handing.{state-on}
use Rattle.pair_problem.proofs.model.PairModelDpModel.rank.Goals as goal

pub rank-requires : goal.rank-requires
rank-requires g c = state-on (ap program_of c.args.self.now.listed) c.args.k c.args.s.now c.requires

pub returns : goal.returns
returns g c = to_z-of_z w64 c.rank.result (record { sfits = c.rank.type_inv }) ∙ (c.rank.ensures ∙ ap (λ (p : Dp). p.rank c.args.k c.args.s.now) (ap program_of c.args.self.now.listed))
