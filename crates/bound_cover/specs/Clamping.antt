-- A cover whose bounds are brought into a range for each layer.
use Rattle.std.specs.Prelude.{ℕ, ◌+◌, ◌-◌, ◌*◌, ◌^◌, ℤ, pos, ◌≤ℤ◌, int_le, cond, List, [], ◌∷◌, map, Option, Some, None, option_map}
use lib.IntN.{neg_ℤ}
use Rattle.dp_model.specs.Dp.{Dp}
use Rattle.dp_model.specs.Lists.{Each}
use Rattle.dp_model.specs.Numbers.{IsFar}
use Rattle.bound_cover.specs.Covers.{CoverRow}

-- the least and the greatest bound of a layer: each moves by 2^51 from layer to layer, which is the most that an arc adds
abbrev pub lowest : ℕ → ℤ
lowest k = neg_ℤ (pos ((1027 + 2 * k) * 2 ^ 50))

-- the greatest bound of layer k
abbrev pub highest : Dp → ℕ → ℤ
highest dp k = pos ((2 * (dp.vars - k) + 1) * 2 ^ 50)

-- a number brought between two others
abbrev pub clamped : ℤ → ℤ → ℤ → ℤ
clamped low high z = cond (int_le z low) low (cond (int_le high z) high z)

-- a row of layer k with its bound brought into the range of the layer
abbrev pub clamped_row : Dp → ℕ → CoverRow → CoverRow
clamped_row dp k row = record { bound = option_map (clamped (lowest k) (highest dp k)) row.bound; words = row.words; arcs = row.arcs }

-- all rows so, from layer k on
abbrev pub clamped_layers : Dp → ℕ → List (List CoverRow) → List (List CoverRow)
clamped_layers dp k [] = []
clamped_layers dp k (layer ∷ more) = map (clamped_row dp k) layer ∷ clamped_layers dp (k + 1) more

-- a bound that a cover's text can hold
abbrev pub IsWritable : Option ℤ → Type 0
IsWritable None = Unit {0}
IsWritable (Some z) = IsFar z

-- each bound of each row can be written
abbrev pub AreWritable : List (List CoverRow) → Type 0
AreWritable layers = Each (λ layer. Each (λ (row : CoverRow). IsWritable row.bound) layer) layers

-- the claim is none, or at least the least value that a feasible solution can have
abbrev pub IsReachable : Option ℤ → Type 0
IsReachable None = Unit {0}
IsReachable (Some z) = neg_ℤ (pos (1025 * 2 ^ 50)) ≤ℤ z
