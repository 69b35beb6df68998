use Rattle.std.proofs.Common.{arith, refl}
use Rattle.std.proofs.lemmas.Int.{ints}
use Rattle.pair_problem.proofs.Sums.{sum-read}
use Rattle.pair_problem.proofs.adding.pair_sum.Goals as goal

pub returns : goal.returns
returns c =
    let p = c.requires.first in
    let q = c.requires.second in
    let small = c.requires.first_small in
    let also = c.requires.second_small in
    rw (
      sum-read c.args.p.no_no c.args.q.no_no p.no_no (omega (arith, ints, p.no_no_most)) q.no_no (omega (arith, ints, q.no_no_most)),
      sum-read c.args.p.no_yes c.args.q.no_yes p.no_yes (omega (arith, ints, p.no_yes_most)) q.no_yes (omega (arith, ints, q.no_yes_most)),
      sum-read c.args.p.yes_no c.args.q.yes_no p.yes_no (omega (arith, ints, p.yes_no_most)) q.yes_no (omega (arith, ints, q.yes_no_most)),
      sum-read c.args.p.yes_yes c.args.q.yes_yes p.yes_yes (omega (arith, ints, p.yes_yes_most)) q.yes_yes (omega (arith, ints, q.yes_yes_most)),
      sum-read c.args.p.most c.args.q.most (omega (arith, ints, p.no_no, p.no_no_most)) small (omega (arith, ints, q.no_no, q.no_no_most)) also,
    ) refl
