use Rattle.std.proofs.Common.{arith, ◌∙◌, ap, length}
use Rattle.pair_rows.specs.Instance.{of_entries}
use Rattle.pair_rows.proofs.Layers.{units-most}
use Rattle.pair_rows.proofs.LayerLimits.{length-limits_through, limits-at}
use Rattle.pair_rows.proofs.limits.limits_of_layers.Goals as goal

pub limits_of_units-requires-clause-weight : goal.limits_of_units-requires-clause-weight
limits_of_units-requires-clause-weight c = units-most (of_entries c.args.units.now c.args.pairs.now) c.requires.kept

pub limits_in-requires : goal.limits_in-requires
limits_in-requires c =
    let is = c.as_slice.ensures.value ∙ c.loop-k.invariant in
    omega (arith, ap length is, length-limits_through c.args.units.now c.args.pairs.now c.loop-k.k)

pub limits_after-requires-clause-before : goal.limits_after-requires-clause-before
limits_after-requires-clause-before c =
    limits-at c.args.units.now c.args.pairs.now c.loop-k.k c.loop-k.k c.as_slice.result.now c.limits_in.result.now (c.as_slice.ensures.value ∙ c.loop-k.invariant) (omega arith) c.limits_in.ensures
