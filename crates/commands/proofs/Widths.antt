-- Widths that are refused.
use Rattle.std.proofs.Common.{ℕ, ◌*◌, ◌≤◌, min, Option, Some, None, sym, subst, arith}
use Rattle.std.proofs.Math.Nat.{min-le_left, le-min, mul-le-mul_right}
use Rattle.dp_model.specs.Dp.{Dp}
use Rattle.dp_model.specs.Laws.{IsLawful}
use Rattle.dp_laws.specs.Width.{cost_below, FitsWidth}
use Rattle.dp_laws.proofs.Widths.{widths-fit}
use Rattle.layer_build.specs.Layers.{IsWidth}
use Rattle.answers.specs.Widths.{IsAskedWidth, IsRefusedWidth}

-- a lesser width fits too
less-fits : (dp : Dp) (v w : ℕ) → v ≤ w → FitsWidth dp w → FitsWidth dp v
less-fits dp v w le fits =
    let most = fits.most in
    let cost = fits.cost in
    let less : v * cost_below dp dp.vars ≤ w * cost_below dp dp.vars = mul-le-mul_right (cost_below dp dp.vars) le in
    record { most = omega arith; cost = omega arith }

-- the default width is never refused
pub refused : (dp : Dp) → IsLawful dp → (given : Option ℕ) (w : ℕ) → IsAskedWidth dp given w → (IsWidth dp w → ⊥) → IsRefusedWidth dp given
refused dp laws None w asked never =
    let some = widths-fit dp laws asked.greatest asked.is_greatest in
    let fits : IsWidth dp (min asked.greatest 100) = record {
      positive = le-min some (omega arith);
      fits = less-fits dp (min asked.greatest 100) asked.greatest (min-le_left asked.greatest 100) asked.is_greatest.fits;
    } in
    never (subst (IsWidth dp) (sym asked.lesser) fits)
refused dp laws (Some given) w asked never = λ fits. never (subst (IsWidth dp) (sym asked) fits)
