-- Rows of cells.
use Rattle.std.specs.Prelude.{◌≡◌, ℕ, ℤ, pos, List, replicate, take, drop}

-- the cells of a row from the first live one on
abbrev pub live_at : (ℕ → List ℤ) → ℕ → ℕ → List ℤ
live_at row live place = drop live (row place)

-- this many first cells of a row are zero
abbrev pub HasZeros : ℕ → List ℤ → Type 0
HasZeros count row = take count row ≡ replicate count (pos 0)
