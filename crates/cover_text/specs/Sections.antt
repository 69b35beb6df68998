-- The sections of a cover: layer K ROWS, then this many lines of rows; end.
use Rattle.std.specs.Prelude.{ℕ, List, [], ◌∷◌, ◌++◌, length, codes, decimal, Result, Ok}
use Rattle.tokens.specs.Text.{TextState, text_start}
use Rattle.tokens.specs.declared.comment.Comment.TheVariants.{Never}
use Rattle.bound_cover.specs.Covers.{CoverRow}
use Rattle.cover_text.specs.Grammar.{CoverError, part_then, passed_then, end_then, until, never, stands, fixed_at, small_at}
use Rattle.cover_text.specs.RowLines.{row_into}

-- the section of the layer of this number, after the layers before it
unfoldable pub numbered_at : ℕ → ℕ → List (List CoverRow) → TextState → Result (List (List CoverRow) × TextState) CoverError
numbered_at most number layers s =
    passed_then (fixed_at (codes "layer") s) (λ t.
    passed_then (fixed_at (decimal number) t) (λ u.
    part_then (small_at u) (λ rows v.
    until never (row_into most) rows (layers ++ [] ∷ []) v)))

-- the section of the next layer after those before it
unfoldable pub layer_at : ℕ → List (List CoverRow) → TextState → Result (List (List CoverRow) × TextState) CoverError
layer_at most layers s = numbered_at most (length layers) layers s

-- the sections of a text, of which it has no more than bytes, then end and nothing else
unfoldable pub sections_at : List ℕ → Result (List (List CoverRow)) CoverError
sections_at bytes =
    part_then (until (stands (codes "end")) (layer_at (length bytes)) (length bytes) [] (text_start Never bytes)) (λ layers t.
    passed_then (fixed_at (codes "end") t) (λ u.
    end_then u (Ok layers)))
