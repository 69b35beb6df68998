use Rattle.std.proofs.Common.{◌+◌, ap, ◌∙◌, sym}
use Rattle.dp_model.specs.Dp.{Dp}
use Rattle.pair_rows.specs.Program.{program_of}
use Rattle.pair_rows.proofs.Handing.{test-on, allowed-on}
use Rattle.pair_problem.proofs.model.PairModelDpModel.next_hash.Goals as goal

pub next_hash-requires : goal.next_hash-requires
next_hash-requires g c = record {
  state = test-on (ap program_of c.args.self.now.listed) c.args.k c.args.s.now c.requires.state;
  hash = c.requires.hash ∙ ap (λ (p : Dp). p.hash c.args.k c.args.s.now) (sym (ap program_of c.args.self.now.listed));
  allowed = allowed-on (ap program_of c.args.self.now.listed) c.args.k c.args.s.now c.args.d c.requires.allowed;
}

pub returns : goal.returns
returns g c =
    let to = c.args.self.now.listed in
    c.next_hash.ensures ∙ (ap (λ (p : Dp). p.hash (c.args.k + 1) (p.step c.args.k c.args.s.now c.args.d)) (ap program_of to)
    ∙ ap (λ row. (program_of (g.P.PairProblem.listed (g.P.PairProblem.numbers c.args.self.now.problem))).hash (c.args.k + 1) row) (sym c.requires.next))
