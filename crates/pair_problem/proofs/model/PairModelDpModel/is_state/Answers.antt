use Rattle.std.proofs.Common.{ap, ◌∙◌, sym}
use Rattle.std.specs.Prelude.{◌≤◌}
use Rattle.std.proofs.Common.{subst}
use Rattle.dp_model.specs.Dp.{Dp}
use Rattle.pair_rows.specs.Program.{program_of}
use Rattle.pair_problem.proofs.model.PairModelDpModel.is_state.Goals as goal

pub is_state-requires : goal.is_state-requires
is_state-requires g c = record {
  layer = subst (λ (p : Dp). c.args.k ≤ p.vars) (sym (ap program_of c.args.self.now.listed)) c.requires.layer;
  cells = c.requires.cells ∙ ap (λ (p : Dp). p.words) (sym (ap program_of c.args.self.now.listed));
}

pub returns : goal.returns
returns g c = c.is_state.ensures ∙ ap (λ (p : Dp). p.is_state c.args.k c.args.s.now) (ap program_of c.args.self.now.listed)
