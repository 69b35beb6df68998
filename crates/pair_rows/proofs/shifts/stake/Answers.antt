use Rattle.std.proofs.Common.{arith}
use Rattle.std.proofs.lemmas.Int.{ints}
use Rattle.pair_rows.proofs.Cells.{parts}
use Rattle.pair_rows.proofs.shifts.stake.Goals as goal

pub overflow_add-result : goal.overflow_add-result
overflow_add-result c = let split = parts c.args.pair c.args.d c.requires.positive in omega (arith, ints)

pub returns : goal.returns
returns c = let split = parts c.args.pair c.args.d c.requires.positive in omega (arith, ints)
