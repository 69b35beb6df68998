-- The sections of a cover as they are printed: single spaces, and each line ends with LF.
use Rattle.std.specs.Prelude.{ℕ, ◌+◌, List, [], ◌∷◌, ◌++◌, length, codes, decimal, flat_map, ℤ, pos, Option, Some, None}
use Rattle.tokens.specs.Decimal.{decimal_of}
use Rattle.bound_cover.specs.Covers.{CoverRow}
use Rattle.bound_cover.specs.declared.cover.CoverArc.{CoverArc}

-- a bound, or the word none
abbrev pub printed_bound : Option ℤ → List ℕ
printed_bound None = codes "none"
printed_bound (Some bound) = decimal_of bound

-- a number after a space
abbrev pub printed_number : ℤ → List ℕ
printed_number number = codes " " ++ decimal_of number

-- the place of a row, or r for the rough bound
abbrev pub printed_target : Option ℕ → List ℕ
printed_target None = codes " r"
printed_target (Some row) = printed_number (pos row)

-- a decision and its target
abbrev pub printed_arc : CoverArc → List ℕ
printed_arc arc = printed_number (pos arc.decision) ++ printed_target arc.target

-- the arc part, which may be empty
abbrev pub printed_arcs : Option (List CoverArc) → List ℕ
printed_arcs None = []
printed_arcs (Some arcs) = codes " ;" ++ flat_map printed_arc arcs

-- the line of a row
abbrev pub printed_row : CoverRow → List ℕ
printed_row row = printed_bound row.bound ++ (codes " ;" ++ (flat_map printed_number row.words ++ (printed_arcs row.arcs ++ codes "\n")))

-- the section of a layer
abbrev pub printed_layer : ℕ → List CoverRow → List ℕ
printed_layer k rows = codes "layer " ++ (decimal k ++ (codes " " ++ (decimal (length rows) ++ (codes "\n" ++ flat_map printed_row rows))))

-- the sections from the layer k on
abbrev pub printed_layers : ℕ → List (List CoverRow) → List ℕ
printed_layers k [] = []
printed_layers k (layer ∷ layers) = printed_layer k layer ++ printed_layers (k + 1) layers

-- all sections, and the word end
abbrev pub printed_cover : List (List CoverRow) → List ℕ
printed_cover layers = printed_layers 0 layers ++ codes "end\n"
