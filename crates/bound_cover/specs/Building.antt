-- A cover that grows row by row: the rows so far, and a row that is open.
use Rattle.std.specs.Prelude.{ℕ, ◌≤◌, ℤ, Bool, cond, List, [], ◌∷◌, ◌++◌, length, map, drop, Option, Some, None}
use Rattle.bound_cover.specs.declared.cover.CoverArc.{CoverArc}
use Rattle.bound_cover.specs.declared.storing.Span.{Span}
use Rattle.bound_cover.specs.Covers.{CoverRow}
use Rattle.bound_cover.specs.Stored.{row_of, layers_of, AreShort, IsStored, with_row}

-- the rows so far, and the words and the arcs of the row that is open
pub record BuilderView : Type 0 where
  pub cover : List (List CoverRow)
  pub words : List ℤ
  pub arcs : List CoverArc

-- with a further word of the open row
abbrev pub with_word : BuilderView → ℤ → BuilderView
with_word b word = record { cover = b.cover; words = b.words ++ word ∷ []; arcs = b.arcs }

-- with a further arc of the open row
abbrev pub with_arc : BuilderView → CoverArc → BuilderView
with_arc b arc = record { cover = b.cover; words = b.words; arcs = b.arcs ++ arc ∷ [] }

-- with a further layer
abbrev pub with_layer : BuilderView → BuilderView
with_layer b = record { cover = b.cover ++ [] ∷ []; words = b.words; arcs = b.arcs }

-- the open row, with a bound, and with an arc part or none
abbrev pub open_row : BuilderView → Option ℤ → Bool → CoverRow
open_row b bound has_arcs = record { bound = bound; words = b.words; arcs = cond has_arcs (Some b.arcs) None }

-- with the open row put into the last layer, and the next one open
abbrev pub with_open_row : BuilderView → Option ℤ → Bool → BuilderView
with_open_row b bound has_arcs = record { cover = with_row b.cover (open_row b bound has_arcs); words = []; arcs = [] }

-- what the blocks show, where the open row begins at these words and arcs
abbrev pub built : List ℕ → List Span → List ℤ → List CoverArc → ℕ → ℕ → BuilderView
built starts heads words arcs words_from arcs_from = record {
  cover = layers_of starts (map (row_of words arcs) heads);
  words = drop words_from words;
  arcs = drop arcs_from arcs;
}

-- all rows lie before the open one, and no layer is too long
pub record IsBuilt (starts : List ℕ) (heads : List Span) (words : List ℤ) (arcs : List CoverArc) (words_from arcs_from : ℕ) : Type 0 where
  pub stored : IsStored starts heads words_from arcs_from
  pub short : AreShort (layers_of starts (map (row_of words arcs) heads))
  pub words_end : words_from ≤ length words
  pub arcs_end : arcs_from ≤ length arcs
