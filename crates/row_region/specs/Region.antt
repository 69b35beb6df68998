-- A region as callers see it: which rows are live, and what stands in them.
use Rattle.std.specs.Prelude.{◌≡◌, ℕ, ◌+◌, ℤ, pos, List, [], ◌++◌, length, take, drop, replicate, slice_get, slice_set, slice_index_or, Option, Some, None}

-- each row has this many cells; the row of each place, or none where it is free; this many places are free
pub record RegionView : Type 0 where
  pub words : ℕ
  pub rows : List (Option (List ℤ))
  pub spare : ℕ

-- the place has this row, of as many cells as each row has
pub record IsRow (r : RegionView) (place : ℕ) (row : List ℤ) : Type 0 where
  pub found : slice_get r.rows place ≡ Some (Some row)
  pub size : length row ≡ r.words

-- the place has a row
abbrev pub IsLive : RegionView → ℕ → Type 0
IsLive r place = (row : List ℤ) × (slice_get r.rows place ≡ Some (Some row))

-- the place was free, and now has this row; nothing else changed
pub record HasPut (old : RegionView) (place : ℕ) (row : List ℤ) (new : RegionView) : Type 0 where
  pub was_free : slice_get old.rows place ≡ Some None
  pub words : new.words ≡ old.words
  pub rows : new.rows ≡ slice_set old.rows place (Some row)
  pub spare : old.spare ≡ new.spare + 1

-- the row put there is one of zeros
abbrev pub HasTaken : RegionView → ℕ → RegionView → Type 0
HasTaken old place new = HasPut old place (replicate old.words (pos 0)) new

-- the row, or nothing where there is none
abbrev pub row_or : Option (List ℤ) → List ℤ
row_or None = []
row_or (Some row) = row

-- the list, cut to this many cells, or filled up from the old one
abbrev pub refilled : ℕ → List ℤ → List ℤ → List ℤ
refilled words old new = take words (new ++ drop (length new) old)

-- the region with the row at the place written over
abbrev pub with_row : RegionView → ℕ → List ℤ → RegionView
with_row r place row = record r { rows = slice_set r.rows place (Some (refilled r.words (row_or (slice_index_or r.rows place None)) row)) }
