use Rattle.std.proofs.Common.{arith, to_z, w64}
use Rattle.std.proofs.lemmas.Int.{ints}
use Rattle.pair_rows.proofs.Summing.{total-grows, total-done}
use Rattle.pair_rows.proofs.sums.row_sum.Goals as goal

pub overflow_add-total : goal.overflow_add-total
overflow_add-total c =
    let more = total-grows c.args.row.now c.loop-i.i (to_z w64 c.loop-i.total-bits) c.pair_limit-total.result c.loop-i-test.true c.requires.positive c.requires.weight c.pair_limit-total.ensures c.loop-i.invariant in
    omega (arith, ints, c.loop-i.invariant.1)

pub loop-i-preserved : goal.loop-i-preserved
loop-i-preserved c =
    let more = total-grows c.args.row.now c.loop-i.i (to_z w64 c.loop-i.total-bits) c.pair_limit-total.result c.loop-i-test.true c.requires.positive c.requires.weight c.pair_limit-total.ensures c.loop-i.invariant in
    (omega (arith, ints, c.loop-i.invariant.1), omega (arith, ints, c.loop-i.invariant.1))

pub returns : goal.returns
returns c = total-done c.args.row.now c.loop-i.i (to_z w64 c.loop-i.total-bits) c.loop-i-test.false c.loop-i.invariant.0
