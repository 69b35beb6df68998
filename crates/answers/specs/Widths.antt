-- The width of a search.
use Rattle.std.specs.Prelude.{◌≡◌, ℕ, min, Option, Some, None}
use Rattle.dp_model.specs.Dp.{Dp}
use Rattle.dp_laws.specs.Width.{IsGreatestWidth}
use Rattle.layer_build.specs.Layers.{IsWidth}

-- the default width: 100, or the greatest one where that is less
pub record IsDefaultWidth (dp : Dp) (w : ℕ) : Type 0 where
  pub greatest : ℕ
  pub is_greatest : IsGreatestWidth dp greatest
  pub lesser : w ≡ min greatest 100

-- the width that is given, or the default one
abbrev pub IsAskedWidth : Dp → Option ℕ → ℕ → Type 0
IsAskedWidth dp None w = IsDefaultWidth dp w
IsAskedWidth dp (Some given) w = w ≡ given

-- the width of a search, which is positive and fits
pub record IsSearchWidth (dp : Dp) (given : Option ℕ) (w : ℕ) : Type 0 where
  pub asked : IsAskedWidth dp given w
  pub fits : IsWidth dp w

-- a width is refused only where it is not positive or does not fit, and the default one never
abbrev pub IsRefusedWidth : Dp → Option ℕ → Type 0
IsRefusedWidth dp None = ⊥
IsRefusedWidth dp (Some w) = IsWidth dp w → ⊥
