-- How far an answer may be from the best value.
use Rattle.std.specs.Prelude.{ℤ, pos, ◌≤ℤ◌}
use Rattle.dp_model.specs.declared.limits.TheConstants.{MOST_DISTANCE}

-- a distance is at least 0 and at most the greatest one
pub record IsDistance (within : ℤ) : Type 0 where
  pub least : pos 0 ≤ℤ within
  pub most : within ≤ℤ pos MOST_DISTANCE
