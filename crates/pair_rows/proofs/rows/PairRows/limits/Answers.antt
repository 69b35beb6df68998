use Rattle.std.proofs.Common.{◌∙◌, List, ℤ, ap, sym, subst, length, arith}
use Rattle.std.specs.Prelude.{IsTrue}
use Rattle.pair_rows.specs.Shown.{instance_in}
use Rattle.pair_rows.specs.Laws.Totals.{limits, none_negative}
use Rattle.pair_rows.proofs.LayerLimits.{length-limits_through, limits-at}
use Rattle.pair_rows.proofs.rows.PairRows.limits.Goals as goal

pub limits_in-requires : goal.limits_in-requires
limits_in-requires c =
    let m = c.args.self.now in
    rw c.as_slice.ensures.value (omega (arith, ap length m.limited, length-limits_through (instance_in m).units (instance_in m).pairs (length (instance_in m).units), c.requires))

pub returns-clause-limits : goal.returns-clause-limits
returns-clause-limits c =
    let m = c.args.self.now in
    limits-at (instance_in m).units (instance_in m).pairs (length (instance_in m).units) c.args.k c.as_slice.result.now c.limits_in.result.now (c.as_slice.ensures.value ∙ m.limited) c.requires c.limits_in.ensures

pub returns-clause-positive : goal.returns-clause-positive
returns-clause-positive c =
    let m = c.args.self.now in
    let same = limits-at (instance_in m).units (instance_in m).pairs (length (instance_in m).units) c.args.k c.as_slice.result.now c.limits_in.result.now (c.as_slice.ensures.value ∙ m.limited) c.requires c.limits_in.ensures in
    subst (λ (l : List ℤ). IsTrue (none_negative l)) (sym same) (limits (instance_in m) c.args.k m.kept c.requires).positive

pub returns-clause-cells : goal.returns-clause-cells
returns-clause-cells c =
    let m = c.args.self.now in
    let same = limits-at (instance_in m).units (instance_in m).pairs (length (instance_in m).units) c.args.k c.as_slice.result.now c.limits_in.result.now (c.as_slice.ensures.value ∙ m.limited) c.requires c.limits_in.ensures in
    omega (arith, ap length same, (limits (instance_in m) c.args.k m.kept c.requires).count)
