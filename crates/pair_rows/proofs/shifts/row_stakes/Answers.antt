use Rattle.std.proofs.Common.{arith, to_z, w64}
use Rattle.std.proofs.lemmas.Int.{ints}
use Rattle.pair_rows.specs.Instance.{no_pair}
use Rattle.pair_rows.proofs.Cells.{pair-at, pair_most-at}
use Rattle.pair_rows.proofs.Shifting.{stakes-grow}
use Rattle.pair_rows.proofs.shifts.row_stakes.Goals as goal

pub stake-total-requires-clause-weight : goal.stake-total-requires-clause-weight
stake-total-requires-clause-weight c = omega (arith, ints, pair_most-at c.args.row.now c.loop-i.i no_pair c.loop-i-test.true c.requires.positive, c.requires.weight)

pub overflow_add-total : goal.overflow_add-total
overflow_add-total c =
    let more = stakes-grow c.args.row.now c.args.d c.loop-i.i (to_z w64 c.loop-i.total-bits) c.stake-total.result c.loop-i-test.true c.requires.positive c.requires.weight c.stake-total.ensures c.loop-i.invariant in
    omega (arith, ints, c.loop-i.invariant.1)

pub loop-i-preserved : goal.loop-i-preserved
loop-i-preserved c =
    let more = stakes-grow c.args.row.now c.args.d c.loop-i.i (to_z w64 c.loop-i.total-bits) c.stake-total.result c.loop-i-test.true c.requires.positive c.requires.weight c.stake-total.ensures c.loop-i.invariant in
    (omega (arith, ints, c.loop-i.invariant.1), omega (arith, ints, c.loop-i.invariant.1))

pub stake-total-requires-clause-positive : goal.stake-total-requires-clause-positive
stake-total-requires-clause-positive c = pair-at c.args.row.now c.loop-i.i no_pair c.loop-i-test.true c.requires.positive
