-- A block of cells has the rows of a region.
use Rattle.std.proofs.Common.{◌≡◌, ℕ, ◌+◌, ◌-◌, ◌*◌, ◌/◌, ◌<◌, ◌≤◌, ℤ, List, length, drop, slice_get, Some, min, sym, ap, ap₂, subst, ◌∙◌, arith}
use Rattle.std.proofs.Math.Nat.{le-div_iff_mul-le, min-eq_left}
use Rattle.layer_candidates.specs.HeldRows.{held_row}
use Rattle.layer_candidates.proofs.HeldRows.{held-is}
use Rattle.row_region.specs.Layout.{row_at}
use Rattle.row_region.specs.Region.{RegionView, IsLive}

-- no row that fits stands after the last one
before-last : (place words size : ℕ) → 0 < words → place * words + words ≤ size → min place (size / words - 1) ≡ place
before-last place words size some fits =
    let count : place + 1 ≤ size / words = (le-div_iff_mul-le {k = words} {x = place + 1} {y = size} some).1 (omega arith) in
    min-eq_left (omega arith)

-- the block has the cells of a live row
pub block-held : (region : RegionView) (cells : List ℤ) (words live place : ℕ) → words ≡ region.words → 0 < region.words → IsLive region place
    → ((place : ℕ) (row : List ℤ) → slice_get region.rows place ≡ Some (Some row) → row_at cells region.words place ≡ row)
    → ((place : ℕ) (row : List ℤ) → slice_get region.rows place ≡ Some (Some row) → place * region.words + region.words ≤ length cells)
    → drop live (row_at cells words (min place (length cells / words - 1))) ≡ drop live (held_row region place)
block-held region cells words live place size some held rows fits =
    let room : place * words + words ≤ length cells = subst (λ (w : ℕ). place * w + w ≤ length cells) (sym size) (fits place held.0 held.1) in
    ap (drop live)
    (ap₂ (row_at cells) size (before-last place words (length cells) (subst (λ (w : ℕ). 0 < w) (sym size) some) room) ∙ (rows place held.0 held.1 ∙ sym (held-is region place held.0 held.1)))
