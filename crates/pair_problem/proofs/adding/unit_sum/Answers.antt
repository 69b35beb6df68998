use Rattle.std.proofs.Common.{arith, refl}
use Rattle.std.proofs.lemmas.Int.{ints}
use Rattle.pair_problem.proofs.Sums.{sum-read}
use Rattle.pair_problem.proofs.adding.unit_sum.Goals as goal

pub returns : goal.returns
returns c =
    let u = c.requires.first in
    let v = c.requires.second in
    let small = c.requires.first_small in
    let also = c.requires.second_small in
    rw (
      sum-read c.args.u.if_no c.args.v.if_no u.if_no (omega (arith, ints, u.no_most)) v.if_no (omega (arith, ints, v.no_most)),
      sum-read c.args.u.if_yes c.args.v.if_yes u.if_yes (omega (arith, ints, u.yes_most)) v.if_yes (omega (arith, ints, v.yes_most)),
      sum-read c.args.u.most c.args.v.most (omega (arith, ints, u.if_no, u.no_most)) small (omega (arith, ints, v.if_no, v.no_most)) also,
    ) refl
