-- A cover, row by row and layer by layer.
use Rattle.std.proofs.Common.{◌≡◌, ℕ, zero, suc, ◌+◌, ◌<◌, ℤ, List, [], ◌∷◌, ◌++◌, length, drop, refl, ap, sym, subst, ◌∙◌, append_assoc, arith}
use Rattle.std.specs.Prelude.{Option, Some, option_map, slice_get, flat_map}
use Rattle.bound_cover.specs.Covers.{CoverRow}
use Rattle.bound_cover.specs.Exploring.{layer_of}
use Rattle.bound_cover.specs.declared.cover.CoverArc.{CoverArc}
use Rattle.dp_model.specs.Lists.{Each}
use Rattle.cover_text.specs.Printed.{printed_row, printed_layer, printed_layers}
use Rattle.cover_text.specs.Written.{IsKeptRow, IsKeptLayer}

-- the row at a place stands first among those from there on
pub row_at : (rows : List CoverRow) (i : ℕ) (bound : Option ℤ) (words : List ℤ) (arcs : Option (List CoverArc)) → option_map (λ r. r.bound) (slice_get rows i) ≡ Some bound
    → option_map (λ r. r.words) (slice_get rows i) ≡ Some words → option_map (λ r. r.arcs) (slice_get rows i) ≡ Some arcs
    → drop i rows ≡ record { bound = bound; words = words; arcs = arcs } ∷ drop (i + 1) rows
row_at [] i bound words arcs b w a = absurd (cc)
row_at (row ∷ rows) zero bound words arcs b w a =
    let at_bound : row.bound ≡ bound = cc in
    let at_words : row.words ≡ words = cc in
    let at_arcs : row.arcs ≡ arcs = cc in
    rw (sym at_bound, sym at_words, sym at_arcs) refl
row_at (row ∷ rows) (suc i) bound words arcs b w a =
    let next : suc i + 1 ≡ suc (i + 1) = omega arith in
    rw next (row_at rows i bound words arcs b w a)

-- the layer at a place stands first among those from there on
pub layer_at : (layers : List (List CoverRow)) (k : ℕ) → k < length layers → drop k layers ≡ layer_of layers k ∷ drop (k + 1) layers
layer_at [] k below = absurd (omega arith)
layer_at (layer ∷ layers) zero below = refl
layer_at (layer ∷ layers) (suc k) below =
    let next : suc k + 1 ≡ suc (k + 1) = omega arith in
    rw next (layer_at layers k (omega arith))

-- the line of one row more
pub rows_from : (rows : List CoverRow) (i : ℕ) (bound : Option ℤ) (words : List ℤ) (arcs : Option (List CoverArc)) (before after whole : List ℕ) → option_map (λ r. r.bound) (slice_get rows i) ≡ Some bound
    → option_map (λ r. r.words) (slice_get rows i) ≡ Some words → option_map (λ r. r.arcs) (slice_get rows i) ≡ Some arcs
    → after ≡ before ++ printed_row (record { bound = bound; words = words; arcs = arcs }) → before ++ flat_map printed_row (drop i rows) ≡ whole
    → after ++ flat_map printed_row (drop (i + 1) rows) ≡ whole
rows_from rows i bound words arcs before after whole b w a printed so_far =
    let row : CoverRow = record { bound = bound; words = words; arcs = arcs } in
    let rest = flat_map printed_row (drop (i + 1) rows) in
    ap (λ bytes. bytes ++ rest) printed ∙ (append_assoc before (printed_row row) rest ∙ (ap (λ left. before ++ flat_map printed_row left) (sym (row_at rows i bound words arcs b w a)) ∙ so_far))

-- the section of one layer more
pub layers_from : (layers : List (List CoverRow)) (k : ℕ) (before after whole : List ℕ) → k < length layers → after ≡ before ++ printed_layer k (layer_of layers k)
    → before ++ printed_layers k (drop k layers) ≡ whole → after ++ printed_layers (k + 1) (drop (k + 1) layers) ≡ whole
layers_from layers k before after whole below printed so_far =
    let rest = printed_layers (k + 1) (drop (k + 1) layers) in
    ap (λ bytes. bytes ++ rest) printed ∙ (append_assoc before (printed_layer k (layer_of layers k)) rest ∙ (ap (λ left. before ++ printed_layers k left) (sym (layer_at layers k below)) ∙ so_far))

-- one row more that is kept
pub kept_from : (rows : List CoverRow) (i : ℕ) (bound : Option ℤ) (words : List ℤ) (arcs : Option (List CoverArc)) → option_map (λ r. r.bound) (slice_get rows i) ≡ Some bound
    → option_map (λ r. r.words) (slice_get rows i) ≡ Some words → option_map (λ r. r.arcs) (slice_get rows i) ≡ Some arcs
    → IsKeptRow (record { bound = bound; words = words; arcs = arcs }) → (Each IsKeptRow (drop i rows) → Each IsKeptRow rows) → Each IsKeptRow (drop (i + 1) rows) → Each IsKeptRow rows
kept_from rows i bound words arcs b w a fits so_far rest = so_far (subst (Each IsKeptRow) (sym (row_at rows i bound words arcs b w a)) (fits, rest))

-- one layer more that is kept
pub kept_layers_from : (layers : List (List CoverRow)) (k : ℕ) → k < length layers → IsKeptLayer (layer_of layers k)
    → (Each IsKeptLayer (drop k layers) → Each IsKeptLayer layers) → Each IsKeptLayer (drop (k + 1) layers) → Each IsKeptLayer layers
kept_layers_from layers k below fits so_far rest = so_far (subst (Each IsKeptLayer) (sym (layer_at layers k below)) (fits, rest))
