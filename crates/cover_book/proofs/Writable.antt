-- Covers whose bounds can be written, row by row.
use Rattle.std.proofs.Common.{◌≡◌, ℕ, zero, suc, List, [], ◌∷◌, ◌++◌, length, refl, arith}
use Rattle.dp_model.specs.Lists.{Each}
use Rattle.dp_model.proofs.Members.{Each-append}
use Rattle.bound_cover.specs.Covers.{CoverRow}
use Rattle.bound_cover.specs.Clamping.{AreWritable, IsWritable}
use Rattle.bound_cover.specs.Exploring.{layer_of}
use Rattle.bound_cover.specs.Stored.{last_layer, with_row}

-- the last layer by its place
pub last-there : (layers : List (List CoverRow)) (n : ℕ) → length layers ≡ suc n → length (layer_of layers n) ≡ length (last_layer layers)
last-there [] n e = absurd (omega arith)
last-there (layer ∷ []) zero e = refl
last-there (layer ∷ []) (suc n) e = absurd (omega arith)
last-there (layer ∷ next ∷ layers) zero e = absurd (omega arith)
last-there (layer ∷ next ∷ layers) (suc n) e = last-there (next ∷ layers) n (omega arith)

-- a row comes to the last layer
pub writable-row : (layers : List (List CoverRow)) (row : CoverRow) → IsWritable row.bound → AreWritable layers → AreWritable (with_row layers row)
writable-row [] row can h = tt
writable-row (layer ∷ []) row can h = (Each-append (λ (r : CoverRow). IsWritable r.bound) layer (row ∷ []) h.0 (can, tt), tt)
writable-row (layer ∷ next ∷ layers) row can h = (h.0, writable-row (next ∷ layers) row can h.1)

-- an empty layer comes after the others
pub writable-layer : (layers : List (List CoverRow)) → AreWritable layers → AreWritable (layers ++ [] ∷ [])
writable-layer layers h = Each-append (λ (layer : List CoverRow). Each (λ (row : CoverRow). IsWritable row.bound) layer) layers ([] ∷ []) h (tt, tt)
