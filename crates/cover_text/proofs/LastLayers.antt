-- The last layer, when a layer or a row is added.
use Rattle.std.proofs.Common.{◌≡◌, suc, ◌+◌, ◌<◌, List, [], ◌∷◌, ◌++◌, length, length-append, refl, ap, ◌∙◌, arith}
use Rattle.bound_cover.specs.Covers.{CoverRow}
use Rattle.bound_cover.specs.Stored.{with_row, last_layer}

-- an added layer is the last
pub last_added : (layers : List (List CoverRow)) → length (last_layer (layers ++ [] ∷ [])) ≡ 0
last_added [] = refl
last_added (layer ∷ []) = refl
last_added (layer ∷ next ∷ layers) = last_added (next ∷ layers)

-- a row adds no layer
pub length_with_row : (layers : List (List CoverRow)) (row : CoverRow) → length (with_row layers row) ≡ length layers
length_with_row [] row = refl
length_with_row (layer ∷ []) row = refl
length_with_row (layer ∷ next ∷ layers) row = ap suc (length_with_row (next ∷ layers) row)

last_following : (layer next : List CoverRow) (layers : List (List CoverRow)) (row : CoverRow) → last_layer (layer ∷ with_row (next ∷ layers) row) ≡ last_layer (with_row (next ∷ layers) row)
last_following layer next [] row = refl
last_following layer next (more ∷ layers) row = refl

-- it stands in the last layer
pub last_grows : (layers : List (List CoverRow)) (row : CoverRow) → 0 < length layers → length (last_layer (with_row layers row)) ≡ length (last_layer layers) + 1
last_grows [] row some = absurd (omega arith)
last_grows (layer ∷ []) row some = length-append layer (row ∷ [])
last_grows (layer ∷ next ∷ layers) row some = ap length (last_following layer next layers row) ∙ last_grows (next ∷ layers) row (omega arith)
