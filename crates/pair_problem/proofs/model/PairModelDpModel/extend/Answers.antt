use Rattle.std.proofs.Common.{ap, ◌∙◌, sym}
use Rattle.std.specs.Prelude.{◌<◌}
use Rattle.std.proofs.Common.{subst}
use Rattle.std.proofs.Common.{w64}
use Rattle.std.proofs.lemmas.Int.{to_z-of_z}
use Rattle.dp_model.specs.Dp.{Dp}
use Rattle.pair_rows.specs.Program.{program_of}
use Rattle.pair_rows.proofs.Handing.{test-on, extended-on}
use Rattle.pair_problem.proofs.model.PairModelDpModel.extend.Goals as goal

pub extend-requires : goal.extend-requires
extend-requires g c = record {
  layer = subst (λ (p : Dp). c.args.k < p.vars) (sym (ap program_of c.args.self.now.listed)) c.requires.layer;
  state = test-on (ap program_of c.args.self.now.listed) c.args.k c.args.s.now c.requires.state;
  rank = to_z-of_z w64 c.args.rank c.ranges.rank ∙ (c.requires.rank ∙ ap (λ (p : Dp). p.rank c.args.k c.args.s.now) (sym (ap program_of c.args.self.now.listed)));
  decision = subst (λ (p : Dp). c.args.d < p.choices c.args.k) (sym (ap program_of c.args.self.now.listed)) c.requires.decision;
  cells = c.requires.cells ∙ ap (λ (p : Dp). p.words) (sym (ap program_of c.args.self.now.listed));
  zeros = c.requires.zeros;
}

pub returns-clause-allowed : goal.returns-clause-allowed
returns-clause-allowed g c = c.extend.ensures.allowed ∙ ap (λ (p : Dp). p.allowed c.args.k c.args.s.now c.args.d) (ap program_of c.args.self.now.listed)

pub returns-clause-row : goal.returns-clause-row
returns-clause-row g c some = c.extend.ensures.row some ∙ ap (λ (p : Dp). p.step c.args.k c.args.s.now c.args.d) (ap program_of c.args.self.now.listed)

pub returns-clause-extended : goal.returns-clause-extended
returns-clause-extended g c = extended-on (ap program_of c.args.self.now.listed) c.args.k c.args.s.now c.args.d c.extend.result c.extend.ensures.extended
