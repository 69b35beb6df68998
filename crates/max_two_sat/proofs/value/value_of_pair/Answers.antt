use Rattle.std.proofs.Common.{arith}
use Rattle.std.proofs.lemmas.Int.{ints}
use Rattle.max_two_sat.proofs.Weighing.{pair_left-is, pair_left-positive, pair_left-most}
use Rattle.max_two_sat.proofs.value.value_of_pair.Goals as goal

pub overflow_sub-result : goal.overflow_sub-result
overflow_sub-result c =
    omega (arith, ints, pair_left-positive c.args.pair c.args.first c.args.second c.requires.positive, pair_left-most c.args.pair c.args.first c.args.second c.requires.positive)

pub returns : goal.returns
returns c =
    omega (
      arith,
      ints,
      pair_left-is c.args.pair c.args.first c.args.second,
      pair_left-positive c.args.pair c.args.first c.args.second c.requires.positive,
      pair_left-most c.args.pair c.args.first c.args.second c.requires.positive,
    )
