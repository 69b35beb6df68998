use Rattle.std.proofs.Common.{arith, to_z, w64, refl}
use Rattle.std.proofs.lemmas.Int.{ints}
use Rattle.pair_rows.specs.Laws.Totals.{pairs_most-positive, rows_most-rows_of}
use Rattle.pair_rows.proofs.Summing.{row-there, left-falls, sums-more, sums-done}
use Rattle.pair_rows.proofs.sums.sums_from.Goals as goal

pub loop-k-init : goal.loop-k-init
loop-k-init c = (
  rw c.in_ok-sums.ensures.items refl,
  omega (arith, ints, c.row_sum-left.ensures, rows_most-rows_of c.args.variables c.args.pairs.now c.requires.whole, pairs_most-positive c.args.pairs.now c.requires.positive, c.requires.weight),
)

pub row_sum-left-requires-in-loop-k-clause-positive : goal.row_sum-left-requires-in-loop-k-clause-positive
row_sum-left-requires-in-loop-k-clause-positive c =
    (row-there c.args.pairs.now c.args.variables c.loop-k.k c.row_of.result.now c.requires.whole c.loop-k-test.true c.requires.positive c.row_of.ensures).positive

pub row_sum-left-requires-in-loop-k-clause-weight : goal.row_sum-left-requires-in-loop-k-clause-weight
row_sum-left-requires-in-loop-k-clause-weight c =
    omega (arith, ints, (row-there c.args.pairs.now c.args.variables c.loop-k.k c.row_of.result.now c.requires.whole c.loop-k-test.true c.requires.positive c.row_of.ensures).weight)

pub overflow_sub-left : goal.overflow_sub-left
overflow_sub-left c =
    let falls = left-falls c.args.pairs.now c.args.variables c.loop-k.k c.row_of.result.now (to_z w64 c.loop-k.left-bits) c.row_sum-left-in-loop-k.result c.requires.whole c.loop-k-test.true
    c.requires.positive c.requires.weight c.row_of.ensures c.row_sum-left-in-loop-k.ensures c.loop-k.invariant.1 in
    omega (arith, ints)

pub loop-k-preserved : goal.loop-k-preserved
loop-k-preserved c =
    let falls = left-falls c.args.pairs.now c.args.variables c.loop-k.k c.row_of.result.now (to_z w64 c.loop-k.left-bits) c.row_sum-left-in-loop-k.result c.requires.whole c.loop-k-test.true
    c.requires.positive c.requires.weight c.row_of.ensures c.row_sum-left-in-loop-k.ensures c.loop-k.invariant.1 in (
      rw c.in_ok-push.ensures.items (sums-more c.args.pairs.now c.args.variables c.loop-k.k c.loop-k.sums.items (to_z w64 c.loop-k.left-bits) c.loop-k-test.true c.loop-k.invariant.1 c.loop-k.invariant.0),
      omega (arith, ints),
    )

pub returns : goal.returns
returns c =
    rw c.in_ok-push-2.ensures.items (sums-done c.args.pairs.now c.args.variables c.loop-k.k c.loop-k.sums.items (to_z w64 c.loop-k.left-bits) c.loop-k-test.false c.loop-k.invariant.1 c.loop-k.invariant.0)
