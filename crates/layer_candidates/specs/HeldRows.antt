-- The rows of a region: which ones are taken, and what stands in them.
use Rattle.std.specs.Prelude.{◌≡◌, ◌≢◌, ℕ, ◌+◌, ℤ, List, length, slice_get, slice_set, slice_index_or, Some, None}
use Rattle.dp_model.specs.Lists.{Each}
use Rattle.dp_laws.specs.Pairs.{EachTwo}
use Rattle.row_region.specs.Region.{RegionView, IsLive, row_or}

-- the row at a place of the region, or no cells where it is free or not there
abbrev pub held_row : RegionView → ℕ → List ℤ
held_row region place = row_or (slice_index_or region.rows place None)

-- the region has all rows that it had, and perhaps more of them are taken
pub record HoldsMore (old new : RegionView) : Type 0 where
  pub words : new.words ≡ old.words
  pub count : length new.rows ≡ length old.rows
  pub same : (place : ℕ) (row : List ℤ) → slice_get old.rows place ≡ Some (Some row) → slice_get new.rows place ≡ Some (Some row)

-- the region has all rows that it had, and as many that are free
pub record IsSameRegion (old new : RegionView) : Type 0 where
  pub more : HoldsMore old new
  pub spare : new.spare ≡ old.spare

-- the place is none of these
abbrev pub IsNoneOf : List ℕ → ℕ → Type 0
IsNoneOf places place = Each (λ (other : ℕ). place ≢ other) places

-- each of the places has a row, and none stands twice
pub record AreLive (region : RegionView) (places : List ℕ) : Type 0 where
  pub live : Each (IsLive region) places
  pub apart : EachTwo (λ (a b : ℕ). a ≢ b) places

-- the rows at the places `before` were given back, and those at the places `held` were taken; the other rows stay
pub record HasExchanged (old : RegionView) (before : List ℕ) (new : RegionView) (held : List ℕ) : Type 0 where
  pub words : new.words ≡ old.words
  pub count : length new.rows ≡ length old.rows
  pub spare : new.spare + length held ≡ old.spare + length before
  pub others : (place : ℕ) (row : List ℤ) → slice_get old.rows place ≡ Some (Some row) → IsNoneOf before place → (slice_get new.rows place ≡ Some (Some row)) × IsNoneOf held place
  pub live : AreLive new held

-- what stands at the places is as it was
abbrev pub AreSame : RegionView → RegionView → List ℕ → Type 0
AreSame old new places = Each (λ (place : ℕ). slice_get new.rows place ≡ slice_get old.rows place) places

-- of the rows at the places `before` those at the places `left` stay, and the others were given back
pub record HasLeft (old : RegionView) (before : List ℕ) (new : RegionView) (left : List ℕ) : Type 0 where
  pub exchanged : HasExchanged old before new left
  pub same : AreSame old new left

-- a live row was written over
pub record HasWritten (old : RegionView) (place : ℕ) (row : List ℤ) (new : RegionView) : Type 0 where
  pub words : new.words ≡ old.words
  pub rows : new.rows ≡ slice_set old.rows place (Some row)
  pub spare : new.spare ≡ old.spare
