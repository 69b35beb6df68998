use Rattle.std.proofs.Common.{arith}
use Rattle.pair_rows.proofs.LayerLimits.{length-first}
use Rattle.pair_rows.proofs.limits.count_of_limits.Goals as goal

pub returns : goal.returns
returns c = grind (arith, c.max.ensures, length-first c.args.units.now)
