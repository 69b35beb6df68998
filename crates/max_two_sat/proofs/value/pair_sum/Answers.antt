use Rattle.std.proofs.Common.{arith}
use Rattle.std.proofs.lemmas.Int.{ints}
use Rattle.max_two_sat.proofs.value.pair_sum.Goals as goal

pub returns : goal.returns
returns c = omega (arith, ints, c.requires.positive.both, c.requires.positive.first, c.requires.positive.second, c.requires.positive.neither, c.requires.weight)
