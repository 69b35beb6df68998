-- How wide a layer may be.
use Rattle.std.specs.Prelude.{ℕ, zero, suc, ◌+◌, ◌*◌, ◌≤◌}
use Rattle.dp_model.specs.Dp.{Dp}
use Rattle.dp_model.specs.declared.limits.TheConstants.{MOST_COST, MOST_WIDTH}

-- what one node of each of the first n layers costs, in units of 8 bytes: four for each arc, and its row
abbrev pub cost_below : Dp → ℕ → ℕ
cost_below dp zero = 0
cost_below dp (suc n) = cost_below dp n + (4 * dp.choices n + dp.words)

-- the width and the cost of its layers are at most the greatest ones
pub record FitsWidth (dp : Dp) (w : ℕ) : Type 0 where
  pub most : w ≤ MOST_WIDTH
  pub cost : w * cost_below dp dp.vars ≤ MOST_COST

-- the greatest width that fits
pub record IsGreatestWidth (dp : Dp) (w : ℕ) : Type 0 where
  pub fits : FitsWidth dp w
  pub greatest : (v : ℕ) → FitsWidth dp v → v ≤ w

-- some width fits, so the greatest one is at least 1
abbrev pub WidthsFit : Dp → Type 0
WidthsFit dp = (w : ℕ) → IsGreatestWidth dp w → 1 ≤ w
