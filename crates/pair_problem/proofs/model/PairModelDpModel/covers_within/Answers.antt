use Rattle.std.proofs.Common.{ap, ◌∙◌, sym}
use Rattle.std.proofs.Common.{w64}
use Rattle.std.proofs.lemmas.Int.{to_z-of_z}
use Rattle.dp_model.specs.Dp.{Dp}
use Rattle.pair_rows.specs.Program.{program_of}
use Rattle.dp_model.specs.Gaps.{within}
use Rattle.pair_rows.proofs.Handing.{state-on}
use Rattle.pair_problem.proofs.model.PairModelDpModel.covers_within.Goals as goal

pub covers_within-requires : goal.covers_within-requires
covers_within-requires g c = record {
  covering = state-on (ap program_of c.args.self.now.listed) c.args.k c.args.a.now c.requires.covering;
  covering_rank = to_z-of_z w64 c.args.rank_a c.ranges.rank_a ∙ (c.requires.covering_rank ∙ ap (λ (p : Dp). p.rank c.args.k c.args.a.now) (sym (ap program_of c.args.self.now.listed)));
  state = state-on (ap program_of c.args.self.now.listed) c.args.k c.args.s.now c.requires.state;
  rank = to_z-of_z w64 c.args.rank_s c.ranges.rank_s ∙ (c.requires.rank ∙ ap (λ (p : Dp). p.rank c.args.k c.args.s.now) (sym (ap program_of c.args.self.now.listed)));
}

pub returns : goal.returns
returns g c = (rw (to_z-of_z w64 c.args.most c.ranges.most) at c.covers_within.ensures) ∙ ap (λ (p : Dp). within c.args.most (p.gap c.args.k c.args.a.now c.args.s.now)) (ap program_of c.args.self.now.listed)
