-- Bounds that a text can hold, tested one after another.
use Rattle.std.proofs.Common.{◌≡◌, ℕ, zero, suc, ◌+◌, ◌<◌, ◌≤◌, List, [], ◌∷◌, length, drop, slice_get, ℤ, Option, Some, subst, arith}
use Rattle.std.specs.Prelude.{option_map}
use Rattle.dp_model.specs.Lists.{Each}
use Rattle.bound_cover.specs.Clamping.{IsWritable, AreWritable}
use Rattle.bound_cover.specs.Covers.{CoverRow}
use Rattle.bound_cover.specs.Exploring.{layer_of}

-- the bounds of these rows
abbrev pub AreHeld : List CoverRow → Type 0
AreHeld rows = Each (λ (row : CoverRow). IsWritable row.bound) rows

pub row_held : (rows : List CoverRow) (i : ℕ) (bound : Option ℤ) → option_map (λ r. r.bound) (slice_get rows i) ≡ Some bound → IsWritable bound → AreHeld (drop (i + 1) rows) → AreHeld (drop i rows)
row_held [] i bound at held rest = absurd (cc)
row_held (row ∷ rows) zero bound at held rest = let same : row.bound ≡ bound = cc in (subst IsWritable (let back : bound ≡ row.bound = cc in back) held, rest)
row_held (row ∷ rows) (suc i) bound at held rest = let next : suc i + 1 ≡ suc (i + 1) = omega arith in row_held rows i bound at held (subst (λ n. AreHeld (drop n (row ∷ rows))) next rest)

pub none_held : (rows : List CoverRow) (i : ℕ) → length rows ≤ i → AreHeld (drop i rows)
none_held [] zero all = tt
none_held [] (suc i) all = tt
none_held (row ∷ rows) zero all = absurd (omega arith)
none_held (row ∷ rows) (suc i) all = none_held rows i (omega arith)

pub layer_held : (layers : List (List CoverRow)) (k : ℕ) → k < length layers → AreHeld (layer_of layers k) → AreWritable (drop (k + 1) layers) → AreWritable (drop k layers)
layer_held [] k below held rest = absurd (omega arith)
layer_held (layer ∷ layers) zero below held rest = (held, rest)
layer_held (layer ∷ layers) (suc k) below held rest = let next : suc k + 1 ≡ suc (k + 1) = omega arith in layer_held layers k (omega arith) held (subst (λ n. AreWritable (drop n (layer ∷ layers))) next rest)

pub no_layers_held : (layers : List (List CoverRow)) (k : ℕ) → length layers ≤ k → AreWritable (drop k layers)
no_layers_held [] zero all = tt
no_layers_held [] (suc k) all = tt
no_layers_held (layer ∷ layers) zero all = absurd (omega arith)
no_layers_held (layer ∷ layers) (suc k) all = no_layers_held layers k (omega arith)

pub ruleset row_steps = (row_held, none_held)

pub ruleset layer_steps = (layer_held, no_layers_held)
