use Rattle.std.proofs.Common.{◌≡◌, ◌+ℤ◌, int_le, ℤ, ap₂}
use Rattle.table_model.proofs.Wide.{wide_is, wide_sum}
use Rattle.table_model.proofs.sums.is_sum_at_most.Goals as goal

pub returns : goal.returns
returns c = ap₂ (λ (p q : ℤ). int_le p q) (wide_sum _ _ _ _ c.from.ensures c.from-2.ensures c.ranges.x c.ranges.y) (wide_is _ _ c.from-3.ensures c.ranges.most)
