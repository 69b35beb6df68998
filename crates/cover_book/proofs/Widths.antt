-- Widths that fit.
use Rattle.std.proofs.Common.{ℕ, ◌*◌, ◌≤◌, min, arith}
use Rattle.std.proofs.Math.Nat.{min-le_left, le-min, mul-le-mul_right}
use Rattle.dp_model.specs.Dp.{Dp}
use Rattle.dp_laws.specs.Width.{cost_below, FitsWidth, IsGreatestWidth}
use Rattle.layer_build.specs.Layers.{IsWidth}

-- a lesser width fits too
pub less-fits : (dp : Dp) (v w : ℕ) → v ≤ w → FitsWidth dp w → FitsWidth dp v
less-fits dp v w le fits =
    let most = fits.most in
    let cost = fits.cost in
    let less : v * cost_below dp dp.vars ≤ w * cost_below dp dp.vars = mul-le-mul_right (cost_below dp dp.vars) le in
    record { most = omega arith; cost = omega arith }
