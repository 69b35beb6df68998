use Rattle.std.proofs.Common.{arith, to_z, w64}
use Rattle.std.proofs.lemmas.Int.{ints}
use Rattle.max_two_sat.proofs.Weighing.{units-grow, units-done, units_value-positive, units_value-most}
use Rattle.max_two_sat.proofs.value.value_of_units.Goals as goal

pub overflow_add-total : goal.overflow_add-total
overflow_add-total c =
    let more = units-grow c.args.units.now c.args.values.now c.loop-i.i (to_z w64 c.loop-i.total-bits) c.value_of_unit-total.result c.loop-i-test.true c.requires.lengths
    c.requires.positive c.requires.weight c.value_of_unit-total.ensures c.loop-i.invariant in
    omega (arith, ints, c.loop-i.invariant.1)

pub loop-i-preserved : goal.loop-i-preserved
loop-i-preserved c =
    let more = units-grow c.args.units.now c.args.values.now c.loop-i.i (to_z w64 c.loop-i.total-bits) c.value_of_unit-total.result c.loop-i-test.true c.requires.lengths
    c.requires.positive c.requires.weight c.value_of_unit-total.ensures c.loop-i.invariant in
    (omega (arith, ints, c.loop-i.invariant.1), omega (arith, ints, c.loop-i.invariant.1))

pub returns : goal.returns
returns c =
    let whole = units-done c.args.units.now c.args.values.now c.loop-i.i (to_z w64 c.loop-i.total-bits) c.loop-i-test.false c.loop-i.invariant.0 in
    record {
      value = whole;
      low = rw whole (units_value-positive c.args.units.now c.args.values.now c.requires.positive);
      high = rw whole (units_value-most c.args.units.now c.args.values.now c.requires.positive);
    }
