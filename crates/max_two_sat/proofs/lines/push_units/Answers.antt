use Rattle.max_two_sat.proofs.PrintedLines.{units-printed, units-all-printed}
use Rattle.max_two_sat.proofs.lines.push_units.Goals as goal

pub loop-v-preserved : goal.loop-v-preserved
loop-v-preserved c = units-printed c.args.units.now c.loop-v.v c.loop-v.out.items _ _ c.loop-v-test.true c.in_ok-push_unit.ensures c.loop-v.invariant

pub returns : goal.returns
returns c = units-all-printed c.args.units.now c.loop-v.v c.loop-v.out.items _ c.loop-v-test.false c.loop-v.invariant
