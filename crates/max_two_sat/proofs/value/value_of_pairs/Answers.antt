use Rattle.std.proofs.Common.{arith, to_z, w64, length, ◌+◌}
use Rattle.std.proofs.lemmas.Int.{ints}
use Rattle.std.proofs.lemmas.List.{length-drop}
use Rattle.max_two_sat.proofs.Weighing.{row-there, rows-grow, rows-done, rows-bounds}
use Rattle.pair_rows.proofs.Writing.{tail-is}
use Rattle.max_two_sat.proofs.value.value_of_pairs.Goals as goal

pub value_of_row-total-requires-clause-lengths : goal.value_of_row-total-requires-clause-lengths
value_of_row-total-requires-clause-lengths c =
    let there = row-there c.args.pairs.now (length c.args.values.now) c.loop-k.k c.row_of-row.result.now c.requires.pairs c.loop-k-test.true c.requires.positive c.row_of-row.ensures in
    rw tail-is (omega (arith, there.entries, length-drop (c.loop-k.k + 1) c.args.values.now))

pub value_of_row-total-requires-clause-positive : goal.value_of_row-total-requires-clause-positive
value_of_row-total-requires-clause-positive c =
    (row-there c.args.pairs.now (length c.args.values.now) c.loop-k.k c.row_of-row.result.now c.requires.pairs c.loop-k-test.true c.requires.positive c.row_of-row.ensures).positive

pub value_of_row-total-requires-clause-weight : goal.value_of_row-total-requires-clause-weight
value_of_row-total-requires-clause-weight c =
    omega (arith, ints, (row-there c.args.pairs.now (length c.args.values.now) c.loop-k.k c.row_of-row.result.now c.requires.pairs c.loop-k-test.true c.requires.positive c.row_of-row.ensures).weight)

pub overflow_add-total : goal.overflow_add-total
overflow_add-total c =
    let more = rows-grow c.args.pairs.now c.args.values.now c.loop-k.k c.row_of-row.result.now (to_z w64 c.loop-k.total-bits) c.value_of_row-total.result c.loop-k-test.true c.requires.pairs
    c.requires.positive c.requires.weight c.row_of-row.ensures (rw tail-is at c.value_of_row-total.ensures.value) c.loop-k.invariant in
    omega (arith, ints, c.loop-k.invariant.1)

pub loop-k-preserved : goal.loop-k-preserved
loop-k-preserved c =
    let more = rows-grow c.args.pairs.now c.args.values.now c.loop-k.k c.row_of-row.result.now (to_z w64 c.loop-k.total-bits) c.value_of_row-total.result c.loop-k-test.true c.requires.pairs
    c.requires.positive c.requires.weight c.row_of-row.ensures (rw tail-is at c.value_of_row-total.ensures.value) c.loop-k.invariant in
    (omega (arith, ints, c.loop-k.invariant.1), omega (arith, ints, c.loop-k.invariant.1))

pub returns : goal.returns
returns c =
    let whole = rows-done c.args.pairs.now c.args.values.now c.loop-k.k (to_z w64 c.loop-k.total-bits) c.loop-k-test.false c.loop-k.invariant.0 in
    let bounds = rows-bounds c.args.pairs.now (length c.args.values.now) c.args.values.now c.requires.pairs c.requires.positive in
    record { value = whole; low = rw whole bounds.0; high = rw whole bounds.1 }
