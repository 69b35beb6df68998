use Rattle.std.proofs.Common.{arith, to_z, w64}
use Rattle.std.proofs.lemmas.Int.{ints}
use Rattle.pair_rows.proofs.Cells.{lesser-grows, lesser-done}
use Rattle.pair_rows.proofs.row.lesser_sum.Goals as goal

pub overflow_add-total : goal.overflow_add-total
overflow_add-total c =
    let more = lesser-grows c.args.units.now c.loop-unit.unit-index (to_z w64 c.loop-unit.total-bits) c.lesser_of-total.result c.loop-unit-test.true
    c.requires.positive c.requires.weight c.lesser_of-total.ensures c.loop-unit.invariant in
    omega (arith, ints, c.loop-unit.invariant.1)

pub loop-unit-preserved : goal.loop-unit-preserved
loop-unit-preserved c =
    let more = lesser-grows c.args.units.now c.loop-unit.unit-index (to_z w64 c.loop-unit.total-bits) c.lesser_of-total.result c.loop-unit-test.true
    c.requires.positive c.requires.weight c.lesser_of-total.ensures c.loop-unit.invariant in
    (omega (arith, ints, c.loop-unit.invariant.1), omega (arith, ints, c.loop-unit.invariant.1))

pub returns : goal.returns
returns c = lesser-done c.args.units.now c.loop-unit.unit-index (to_z w64 c.loop-unit.total-bits) c.loop-unit-test.false c.loop-unit.invariant.0
