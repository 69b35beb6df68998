use Rattle.std.proofs.Common.{arith, refl, w64, ◌∙◌}
use Rattle.std.proofs.lemmas.Int.{ints, to_z-of_z}
use Rattle.pair_rows.specs.Instance.{no_pair}
use Rattle.pair_rows.proofs.Cells.{pair-at, pair_most-at}
use Rattle.pair_rows.proofs.Shifting.{shifts-more, shifts-done}
use Rattle.pair_rows.proofs.shifts.cells_of.Goals as goal

pub shift-requires-clause-weight : goal.shift-requires-clause-weight
shift-requires-clause-weight c = omega (arith, ints, pair_most-at c.args.pairs.now c.loop-i.i no_pair c.loop-i-test.true c.requires.positive, c.requires.weight)

pub loop-i-init : goal.loop-i-init
loop-i-init c = rw c.in_ok-cells.ensures.items refl

pub shift-requires-clause-positive : goal.shift-requires-clause-positive
shift-requires-clause-positive c = pair-at c.args.pairs.now c.loop-i.i no_pair c.loop-i-test.true c.requires.positive

pub returns : goal.returns
returns c = shifts-done c.args.pairs.now c.args.d c.loop-i.i c.loop-i.cells.items c.loop-i-test.false c.loop-i.invariant

pub loop-i-preserved : goal.loop-i-preserved
loop-i-preserved c =
    rw c.in_ok-push.ensures.items
    (shifts-more c.args.pairs.now c.args.d c.loop-i.i c.loop-i.cells.items _ c.loop-i-test.true (to_z-of_z w64 c.shift.result (record { sfits = c.shift.type_inv }) ∙ c.shift.ensures) c.loop-i.invariant)
