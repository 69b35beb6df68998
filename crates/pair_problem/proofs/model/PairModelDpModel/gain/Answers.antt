use Rattle.std.proofs.Common.{ap, ◌∙◌}
use Rattle.std.proofs.Common.{w64}
use Rattle.std.proofs.lemmas.Int.{to_z-of_z}
use Rattle.dp_model.specs.Dp.{Dp}
use Rattle.pair_rows.specs.Program.{program_of}
use Rattle.pair_rows.proofs.Handing.{test-on, allowed-on}
use Rattle.pair_problem.proofs.model.PairModelDpModel.gain.Goals as goal

pub gain-requires : goal.gain-requires
gain-requires g c = record {
  state = test-on (ap program_of c.args.self.now.listed) c.args.k c.args.s.now c.requires.state;
  allowed = allowed-on (ap program_of c.args.self.now.listed) c.args.k c.args.s.now c.args.d c.requires.allowed;
}

pub returns : goal.returns
returns g c = to_z-of_z w64 c.gain.result (record { sfits = c.gain.type_inv }) ∙ (c.gain.ensures ∙ ap (λ (p : Dp). p.gain c.args.k c.args.s.now c.args.d) (ap program_of c.args.self.now.listed))
