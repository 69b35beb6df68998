use Rattle.std.proofs.Common.{arith, w64, ◌∙◌, ap}
use Rattle.std.proofs.lemmas.Int.{ints, to_z-of_z}
use Rattle.pair_rows.specs.Shifts.{stakes_of}
use Rattle.pair_rows.proofs.Summing.{row-there}
use Rattle.pair_rows.proofs.Shifting.{rows-more, rows-done}
use Rattle.pair_rows.proofs.shifts.stakes_of.Goals as goal

pub row_stakes-requires-clause-positive : goal.row_stakes-requires-clause-positive
row_stakes-requires-clause-positive c =
    (row-there c.args.pairs.now c.args.variables c.loop-k.k c.row_of.result.now c.requires.whole c.loop-k-test.true c.requires.positive c.row_of.ensures).positive

pub row_stakes-requires-clause-weight : goal.row_stakes-requires-clause-weight
row_stakes-requires-clause-weight c =
    omega (arith, ints, (row-there c.args.pairs.now c.args.variables c.loop-k.k c.row_of.result.now c.requires.whole c.loop-k-test.true c.requires.positive c.row_of.ensures).weight, c.requires.weight)

pub loop-k-preserved : goal.loop-k-preserved
loop-k-preserved c =
    rw c.in_ok-push.ensures.items
    (rows-more c.args.pairs.now c.args.d c.args.variables c.loop-k.k c.loop-k.stakes.items _ c.loop-k-test.true
    (to_z-of_z w64 c.row_stakes.result (record { sfits = c.row_stakes.type_inv }) ∙ (c.row_stakes.ensures ∙ ap (stakes_of c.args.d) c.row_of.ensures)) c.loop-k.invariant)

pub returns : goal.returns
returns c = rows-done c.args.pairs.now c.args.d c.args.variables c.loop-k.k c.loop-k.stakes.items c.loop-k-test.false c.loop-k.invariant
