use Rattle.std.proofs.Common.{◌≡◌, ◌+ℤ◌, int_le, ℤ, ap₂}
use Rattle.table_model.proofs.Wide.{wide_sum}
use Rattle.table_model.proofs.sums.are_sums_ordered.Goals as goal

pub returns : goal.returns
returns c =
    ap₂ (λ (p q : ℤ). int_le p q) (wide_sum _ _ _ _ c.from.ensures c.from-2.ensures c.ranges.x c.ranges.y) (wide_sum _ _ _ _ c.from-3.ensures c.from-4.ensures c.ranges.z c.ranges.t)
