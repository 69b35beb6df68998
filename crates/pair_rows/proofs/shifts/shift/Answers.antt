use Rattle.std.proofs.Common.{arith}
use Rattle.std.proofs.lemmas.Int.{ints}
use Rattle.pair_rows.proofs.Cells.{parts}
use Rattle.pair_rows.proofs.shifts.shift.Goals as goal

pub overflow_sub-result : goal.overflow_sub-result
overflow_sub-result c = let split = parts c.args.pair c.args.d c.requires.positive in omega (arith, ints)

pub returns : goal.returns
returns c = let split = parts c.args.pair c.args.d c.requires.positive in omega (arith, ints)
