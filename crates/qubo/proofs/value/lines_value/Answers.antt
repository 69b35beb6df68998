use Rattle.std.proofs.Common.{arith, ◌+ℤ◌, to_z, w64}
use Rattle.std.proofs.lemmas.Int.{ints, to_z-of_z}
use Rattle.qubo.proofs.Passes.{bounds-at, sums-more, sums-none, sums-done}
use Rattle.qubo.proofs.value.lines_value.Goals as goal

pub loop-line-init : goal.loop-line-init
loop-line-init c = sums-none c.args.decisions.now c.args.lines.now

pub overflow_add-total : goal.overflow_add-total
overflow_add-total c =
    let bounds = bounds-at c.args.decisions.now c.args.lines.now c.loop-line.line-index c.requires.each c.loop-line-test.true in
    let value = c.line_value-total.ensures in
    omega (arith, ints, c.loop-line.invariant.low, c.loop-line.invariant.high, bounds.low, bounds.high, c.requires.count, c.loop-line-test.true)

pub loop-line-preserved : goal.loop-line-preserved
loop-line-preserved c =
    let bounds = bounds-at c.args.decisions.now c.args.lines.now c.loop-line.line-index c.requires.each c.loop-line-test.true in
    let value = c.line_value-total.ensures in
    let value_read = to_z-of_z w64 c.line_value-total.result (omega (arith, ints, bounds.low, bounds.high)) in
    let sum_read = to_z-of_z w64 (to_z w64 c.loop-line.total-bits +ℤ c.line_value-total.result)
    (omega (arith, ints, c.loop-line.invariant.low, c.loop-line.invariant.high, bounds.low, bounds.high, c.requires.count, c.loop-line-test.true)) in
    rw (value_read, sum_read)
    (sums-more c.args.decisions.now c.args.lines.now c.loop-line.line-index (to_z w64 c.loop-line.total-bits) c.line_value-total.result c.requires.each c.loop-line-test.true value c.loop-line.invariant)

pub returns : goal.returns
returns c = sums-done c.args.decisions.now c.args.lines.now c.loop-line.line-index (to_z w64 c.loop-line.total-bits) c.loop-line-test.false c.loop-line.invariant
