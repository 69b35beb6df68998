use Rattle.std.proofs.Common.{arith}
use Rattle.std.proofs.lemmas.Int.{ints}
use Rattle.pair_rows.specs.Instance.{of_entries}
use Rattle.pair_rows.proofs.LayerLimits.{next-limit}
use Rattle.pair_rows.proofs.limits.limit_after.Goals as goal

pub bounds-before-next : goal.bounds-before-next
bounds-before-next c = let there = next-limit (of_entries c.args.units.now c.args.pairs.now) c.args.k c.args.i c.args.row.now c.args.before.now c.requires.kept c.requires.layer c.requires.entry c.requires.row c.requires.before in omega (arith, there.inside)

pub overflow_add-result : goal.overflow_add-result
overflow_add-result c = let there = next-limit (of_entries c.args.units.now c.args.pairs.now) c.args.k c.args.i c.args.row.now c.args.before.now c.requires.kept c.requires.layer c.requires.entry c.requires.row c.requires.before in omega (arith, ints, there.sum, there.low, there.high)

pub returns : goal.returns
returns c = let there = next-limit (of_entries c.args.units.now c.args.pairs.now) c.args.k c.args.i c.args.row.now c.args.before.now c.requires.kept c.requires.layer c.requires.entry c.requires.row c.requires.before in omega (arith, ints, there.sum, there.low, there.high)
