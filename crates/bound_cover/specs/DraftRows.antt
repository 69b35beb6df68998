-- What the rows and the waiting rows of an exploration keep from step to step.
use Rattle.std.specs.Prelude.{◌≡◌, ℕ, ◌+◌, ◌<◌, ℤ, List, length, slice_get, Option, Some, None, IsTrue, ◌⊎◌}
use Rattle.dp_model.specs.Dp.{Dp}
use Rattle.dp_model.specs.Lists.{Each, OneOf}
use Rattle.dp_model.specs.Prefixes.{IsPrefix, state_of, value_of}
use Rattle.bound_cover.specs.Covers.{CoverRow}
use Rattle.bound_cover.specs.Tests.{row_fault}
use Rattle.bound_cover.specs.Verdicts.{has_root}
use Rattle.bound_cover.specs.Exploring.{layer_of, rest_of, Waiting}

-- the row passes its tests
abbrev pub Passes : Dp → ℕ → List CoverRow → CoverRow → Type 0
Passes dp k next row = (i : ℕ) → row_fault dp k i next row ≡ None

-- the waiting row is the one at the place of the layer
pub record IsAt (k i : ℕ) (q : Waiting) : Type 0 where
  pub depth : length q.prefix ≡ k
  pub place : q.place ≡ i

-- a waiting row stands for a prefix that is not whole, and claims best less its value
pub record IsWaiting (dp : Dp) (best : Option ℤ) (rows : List (List CoverRow)) (q : Waiting) : Type 0 where
  pub prefix : IsPrefix dp q.prefix
  pub short : length q.prefix < dp.vars
  pub row : CoverRow
  pub at : slice_get (layer_of rows (length q.prefix)) q.place ≡ Some row
  pub words : row.words ≡ state_of dp q.prefix
  pub bound : row.bound ≡ rest_of best (value_of dp q.prefix)

-- each row passes its tests, or waits
pub record IsDraft (dp : Dp) (best : Option ℤ) (rows : List (List CoverRow)) (waiting : List Waiting) : Type 0 where
  pub long : length rows ≡ dp.vars + 1
  pub root : IsTrue (has_root dp best (layer_of rows 0))
  pub fine : (k i : ℕ) (row : CoverRow) → slice_get (layer_of rows k) i ≡ Some row → Passes dp k (layer_of rows (k + 1)) row ⊎ OneOf (IsAt k i) waiting
  pub waits : Each (IsWaiting dp best rows) waiting
