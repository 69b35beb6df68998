use Rattle.std.proofs.Common.{ap, ◌∙◌, sym, w64}
use Rattle.std.proofs.lemmas.Int.{to_z-of_z}
use Rattle.dp_model.specs.Dp.{Dp}
use Rattle.dp_model.specs.Gaps.{within}
use Rattle.pair_rows.specs.Program.{program_of}
use Rattle.pair_rows.proofs.Handing.{print-on, state-on}
use Rattle.pair_problem.proofs.model.PairModelDpModel.may_cover.Goals as goal

pub may_cover-requires : goal.may_cover-requires
may_cover-requires g c =
    let to = ap program_of c.args.self.now.listed in
    record {
      covering = state-on to c.args.k c.args.a.now c.requires.covering;
      covering_print = print-on to c.args.k c.args.a.now c.args.of_a c.requires.covering_print;
      state = state-on to c.args.k c.args.s.now c.requires.state;
      print = print-on to c.args.k c.args.s.now c.args.of_s c.requires.print;
    }

pub returns : goal.returns
returns g c = λ test.
    sym (ap (λ (p : Dp). within c.args.most (p.gap c.args.k c.args.a.now c.args.s.now)) (ap program_of c.args.self.now.listed))
    ∙ (rw (to_z-of_z w64 c.args.most c.ranges.most) at c.may_cover.ensures) test
