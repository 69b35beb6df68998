-- A printed cover has no fewer bytes than layers, and than words or arcs of a row.
use Rattle.std.proofs.Common.{ℕ, ◌+◌, ◌≤◌, pos, List, [], ◌∷◌, ◌++◌, length, length-append, ℤ, arith}
use Rattle.std.specs.Prelude.{codes, decimal, Option, Some, None, flat_map}
use Rattle.dp_model.specs.Lists.{Each}
use Rattle.bound_cover.specs.Covers.{CoverRow}
use Rattle.bound_cover.specs.declared.cover.CoverArc.{CoverArc}
use Rattle.cover_text.specs.Printed.{printed_bound, printed_number, printed_target, printed_arc, printed_arcs, printed_row, printed_layer, printed_layers}
use Rattle.cover_text.proofs.PrintedRows.{IsFew, AreFew}

words-few : (zs : List ℤ) → length zs ≤ length (flat_map printed_number zs)
words-few [] = omega arith
words-few (z ∷ zs) = omega (arith, length-append (printed_number z) (flat_map printed_number zs), words-few zs)

arc-list-few : (arcs : List CoverArc) → length arcs ≤ length (flat_map printed_arc arcs)
arc-list-few [] = omega arith
arc-list-few (arc ∷ arcs) = omega (arith, length-append (printed_arc arc) (flat_map printed_arc arcs), length-append (printed_number (pos arc.decision)) (printed_target arc.target), arc-list-few arcs)

arcs-few : (most : ℕ) (arcs : Option (List CoverArc)) → length (printed_arcs arcs) ≤ most → AreFew most arcs
arcs-few most None low = tt
arcs-few most (Some arcs) low = omega (arith, length-append (codes " ;") (flat_map printed_arc arcs), arc-list-few arcs)

row-few : (most : ℕ) (row : CoverRow) → length (printed_row row) ≤ most → IsFew most row
row-few most row low =
    let one = length-append (printed_bound row.bound) (codes " ;" ++ (flat_map printed_number row.words ++ (printed_arcs row.arcs ++ codes "\n"))) in
    let two = length-append (codes " ;") (flat_map printed_number row.words ++ (printed_arcs row.arcs ++ codes "\n")) in
    let three = length-append (flat_map printed_number row.words) (printed_arcs row.arcs ++ codes "\n") in
    let four = length-append (printed_arcs row.arcs) (codes "\n") in
    record { words = omega (arith, words-few row.words); arcs = arcs-few most row.arcs (omega arith) }

rows-few : (most : ℕ) (rows : List CoverRow) → length (flat_map printed_row rows) ≤ most → Each (IsFew most) rows
rows-few most [] low = tt
rows-few most (row ∷ rows) low =
    let both = length-append (printed_row row) (flat_map printed_row rows) in
    (row-few most row (omega arith), rows-few most rows (omega arith))

layer-few : (most k : ℕ) (rows : List CoverRow) → length (printed_layer k rows) ≤ most → Each (IsFew most) rows × (1 ≤ length (printed_layer k rows))
layer-few most k rows low =
    let one = length-append (codes "layer ") (decimal k ++ (codes " " ++ (decimal (length rows) ++ (codes "\n" ++ flat_map printed_row rows)))) in
    let two = length-append (decimal k) (codes " " ++ (decimal (length rows) ++ (codes "\n" ++ flat_map printed_row rows))) in
    let three = length-append (codes " ") (decimal (length rows) ++ (codes "\n" ++ flat_map printed_row rows)) in
    let four = length-append (decimal (length rows)) (codes "\n" ++ flat_map printed_row rows) in
    let five = length-append (codes "\n") (flat_map printed_row rows) in
    (rows-few most rows (omega arith), omega arith)

pub layers-few : (most k : ℕ) (layers : List (List CoverRow)) → length (printed_layers k layers) ≤ most → Each (Each (IsFew most)) layers × (length layers ≤ length (printed_layers k layers))
layers-few most k [] low = (tt, omega arith)
layers-few most k (layer ∷ layers) low =
    let both = length-append (printed_layer k layer) (printed_layers (k + 1) layers) in
    let one = layer-few most k layer (omega arith) in
    let rest = layers-few most (k + 1) layers (omega arith) in
    let some = one.1 in let few = rest.1 in
    ((one.0, rest.0), omega arith)
