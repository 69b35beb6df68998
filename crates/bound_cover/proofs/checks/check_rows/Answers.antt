use Rattle.bound_cover.proofs.Blocks.{short_at}
use Rattle.bound_cover.proofs.checks.check_rows.Goals as goal

pub layers_fault-requires-clause-short : goal.layers_fault-requires-clause-short
layers_fault-requires-clause-short g c κs within = short_at c.args.cover.now c.layers.ensures.short
