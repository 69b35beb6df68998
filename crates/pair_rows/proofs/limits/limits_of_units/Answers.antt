use Rattle.std.proofs.Common.{arith, refl, w64, ◌∙◌}
use Rattle.std.proofs.lemmas.Int.{to_z-of_z}
use Rattle.pair_rows.specs.Program.{first_limits}
use Rattle.pair_rows.proofs.LayerLimits.{take-next, take-done}
use Rattle.pair_rows.proofs.limits.limits_of_units.Goals as goal

pub loop-i-init : goal.loop-i-init
loop-i-init c = rw c.in_ok-cells.ensures.items refl

pub loop-i-preserved : goal.loop-i-preserved
loop-i-preserved c =
    rw c.in_ok-push.ensures.items
    (take-next (first_limits c.args.units.now) c.loop-i.cells.items c.loop-i.i _ (omega (arith, c.loop-i-test.true, c.count_of_limits-count.ensures)) (to_z-of_z w64 c.limit_of_unit.result (record { sfits = c.limit_of_unit.type_inv }) ∙ c.limit_of_unit.ensures) c.loop-i.invariant)

pub returns : goal.returns
returns c = take-done (first_limits c.args.units.now) c.loop-i.cells.items c.loop-i.i (omega (arith, c.loop-i-test.false, c.count_of_limits-count.ensures)) c.loop-i.invariant
