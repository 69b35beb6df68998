use Rattle.std.proofs.Common.{arith, w64, ap, ◌∙◌}
use Rattle.std.proofs.lemmas.Int.{to_z-of_z}
use Rattle.pair_rows.specs.Laws.Pairs.{length-rows_of}
use Rattle.pair_rows.specs.Pairs.{rows_of}
use Rattle.pair_rows.specs.Shifts.{change_of}
use Rattle.pair_rows.proofs.Hashing.{mapped-more, mapped-done}
use Rattle.pair_rows.proofs.shifts.changes_of.Goals as goal

pub loop-k-preserved : goal.loop-k-preserved
loop-k-preserved c =
    rw c.in_ok-push.ensures.items
    (mapped-more change_of (rows_of c.args.variables c.args.cells.now) c.loop-k.k c.loop-k.changes.items _ (omega (arith, length-rows_of c.args.variables c.args.cells.now, c.loop-k-test.true))
    (to_z-of_z w64 c.polynomial.result (record { sfits = c.polynomial.type_inv }) ∙ (c.polynomial.ensures ∙ ap change_of c.row_of.ensures)) c.loop-k.invariant)

pub returns : goal.returns
returns c =
    mapped-done change_of (rows_of c.args.variables c.args.cells.now) c.loop-k.k c.loop-k.changes.items (omega (arith, length-rows_of c.args.variables c.args.cells.now, c.loop-k-test.false)) c.loop-k.invariant
