use Rattle.std.proofs.Common.{arith, refl, w64, ◌+◌, ◌∙◌}
use Rattle.std.proofs.lemmas.Int.{to_z-of_z}
use Rattle.pair_rows.specs.Instance.{of_entries}
use Rattle.pair_rows.specs.Program.{limits_at}
use Rattle.pair_rows.proofs.LayerLimits.{following-long, take-next, take-done}
use Rattle.pair_rows.proofs.limits.limits_after.Goals as goal

pub loop-i-init : goal.loop-i-init
loop-i-init c = rw c.in_ok-cells.ensures.items refl

pub loop-i-preserved : goal.loop-i-preserved
loop-i-preserved c =
    let long = following-long (of_entries c.args.units.now c.args.pairs.now) c.args.k c.row_of-row.result.now c.requires.kept c.requires.layer c.row_of-row.ensures in
    rw c.in_ok-push.ensures.items
    (take-next (limits_at c.args.units.now c.args.pairs.now (c.args.k + 1)) c.loop-i.cells.items c.loop-i.i _ (omega (arith, c.loop-i-test.true)) (to_z-of_z w64 c.limit_after.result (record { sfits = c.limit_after.type_inv }) ∙ c.limit_after.ensures) c.loop-i.invariant)

pub returns : goal.returns
returns c =
    let long = following-long (of_entries c.args.units.now c.args.pairs.now) c.args.k c.row_of-row.result.now c.requires.kept c.requires.layer c.row_of-row.ensures in
    take-done (limits_at c.args.units.now c.args.pairs.now (c.args.k + 1)) c.loop-i.cells.items c.loop-i.i (omega (arith, c.loop-i-test.false)) c.loop-i.invariant
