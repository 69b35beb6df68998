use Rattle.std.proofs.Common.{ap, ◌∙◌, sym}
use Rattle.std.proofs.Common.{w64}
use Rattle.std.proofs.lemmas.Int.{to_z-of_z}
use Rattle.dp_model.specs.Dp.{Dp}
use Rattle.pair_rows.specs.Program.{program_of}
use Rattle.pair_rows.proofs.Handing.{state-on}
use Rattle.pair_problem.proofs.model.PairModelDpModel.rough_by_rank.Goals as goal

pub rough_by_rank-requires : goal.rough_by_rank-requires
rough_by_rank-requires g c = record {
  state = state-on (ap program_of c.args.self.now.listed) c.args.k c.args.s.now c.requires.state;
  rank = to_z-of_z w64 c.args.rank c.ranges.rank ∙ (c.requires.rank ∙ ap (λ (p : Dp). p.rank c.args.k c.args.s.now) (sym (ap program_of c.args.self.now.listed)));
}

pub returns : goal.returns
returns g c = c.rough_by_rank.ensures ∙ ap (λ (p : Dp). p.rough c.args.k c.args.s.now) (ap program_of c.args.self.now.listed)
