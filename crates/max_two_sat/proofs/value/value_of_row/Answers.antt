use Rattle.std.proofs.Common.{arith, to_z, w64}
use Rattle.std.proofs.lemmas.Int.{ints}
use Rattle.max_two_sat.specs.Instance.{no_pair}
use Rattle.max_two_sat.proofs.Entries.{pair-at, pair_total-at}
use Rattle.max_two_sat.proofs.Weighing.{row-grows, row-done, row-bounds}
use Rattle.max_two_sat.proofs.value.value_of_row.Goals as goal

pub value_of_pair-total-requires-clause-positive : goal.value_of_pair-total-requires-clause-positive
value_of_pair-total-requires-clause-positive c = pair-at c.args.row.now c.loop-i.i no_pair c.loop-i-test.true c.requires.positive

pub value_of_pair-total-requires-clause-weight : goal.value_of_pair-total-requires-clause-weight
value_of_pair-total-requires-clause-weight c =
    omega (arith, ints, pair_total-at c.args.row.now c.loop-i.i no_pair c.loop-i-test.true c.requires.positive)

pub overflow_add-total : goal.overflow_add-total
overflow_add-total c =
    let more = row-grows c.args.row.now c.args.value c.args.later.now c.loop-i.i (to_z w64 c.loop-i.total-bits) c.value_of_pair-total.result c.loop-i-test.true c.requires.lengths
    c.requires.positive c.requires.weight c.value_of_pair-total.ensures c.loop-i.invariant in
    omega (arith, ints, c.loop-i.invariant.1)

pub loop-i-preserved : goal.loop-i-preserved
loop-i-preserved c =
    let more = row-grows c.args.row.now c.args.value c.args.later.now c.loop-i.i (to_z w64 c.loop-i.total-bits) c.value_of_pair-total.result c.loop-i-test.true c.requires.lengths
    c.requires.positive c.requires.weight c.value_of_pair-total.ensures c.loop-i.invariant in
    (omega (arith, ints, c.loop-i.invariant.1), omega (arith, ints, c.loop-i.invariant.1))

pub returns : goal.returns
returns c =
    let whole = row-done c.args.row.now c.args.value c.args.later.now c.loop-i.i (to_z w64 c.loop-i.total-bits) c.loop-i-test.false c.loop-i.invariant.0 in
    let bounds = row-bounds c.args.row.now c.args.value c.args.later.now c.requires.positive in
    record { value = whole; low = rw whole bounds.0; high = rw whole bounds.1 }
