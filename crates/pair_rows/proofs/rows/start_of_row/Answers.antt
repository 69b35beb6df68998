use Rattle.std.proofs.Common.{arith}
use Rattle.pair_rows.specs.Laws.Pairs.{entries_before-is}
use Rattle.pair_rows.proofs.rows.start_of_row.Goals as goal

pub returns : goal.returns
returns c = omega (arith, entries_before-is c.args.variables c.args.k c.requires.variable)
