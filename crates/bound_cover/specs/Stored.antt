-- How a cover lies in memory: heads of rows one after another, and their words and arcs in two blocks.
use Rattle.std.specs.Prelude.{◌≡◌, ℕ, ◌+◌, ◌-◌, ◌^◌, ◌<◌, ◌≤◌, nat_lt, unwrap_or, option_and_then, option_map, slice_get, ℤ, cond, List, [], ◌∷◌, ◌++◌, length, map, drop, Option, Some, None}
use Rattle.std.specs.List.{slice_range}
use Rattle.dp_model.specs.Lists.{Each}
use Rattle.bound_cover.specs.declared.cover.CoverArc.{CoverArc}
use Rattle.bound_cover.specs.declared.storing.Head.{Head}
use Rattle.bound_cover.specs.declared.storing.Span.{Span}
use Rattle.bound_cover.specs.declared.storing.RowRef.{RowRef}
use Rattle.dp_model.specs.Dp.{Dp}
use Rattle.bound_cover.specs.declared.cover.Why.{Why}
use Rattle.bound_cover.specs.declared.cover.Why.TheVariants.{Target}
use Rattle.bound_cover.specs.Covers.{CoverRow}
use Rattle.bound_cover.specs.Tests.{is_state_row, gap_fault}

-- the span of a head whose words and arcs begin here
abbrev pub span_of : ℕ → ℕ → Head → Span
span_of words_from arcs_from head = record {
  bound = cond head.is_bounded (Some head.bound) None;
  words_from = words_from;
  words_to = head.words_to;
  has_arcs = head.has_arcs;
  arcs_from = arcs_from;
  arcs_to = head.arcs_to;
}

-- the spans of heads, of which each begins where the one before ends
abbrev pub spans_from : ℕ → ℕ → List Head → List Span
spans_from words_from arcs_from [] = []
spans_from words_from arcs_from (head ∷ heads) = span_of words_from arcs_from head ∷ spans_from head.words_to head.arcs_to heads

-- the spans of all heads
abbrev pub spans : List Head → List Span
spans heads = spans_from 0 0 heads

-- where the words of all heads end, and where their arcs do
abbrev pub end_of_words : ℕ → List Head → ℕ
end_of_words from [] = from
end_of_words from (head ∷ heads) = end_of_words head.words_to heads

-- where the arcs of all heads end
abbrev pub end_of_arcs : ℕ → List Head → ℕ
end_of_arcs from [] = from
end_of_arcs from (head ∷ heads) = end_of_arcs head.arcs_to heads

-- a further row begins there
pub record BeginsAt (words arcs : ℕ) (heads : List Head) : Type 0 where
  pub words_at : end_of_words 0 heads ≡ words
  pub arcs_at : end_of_arcs 0 heads ≡ arcs

-- the row of a span
abbrev pub row_of : List ℤ → List CoverArc → Span → CoverRow
row_of words arcs span = record {
  bound = span.bound;
  words = slice_range words span.words_from span.words_to;
  arcs = cond span.has_arcs (Some (slice_range arcs span.arcs_from span.arcs_to)) None;
}

-- the layers, of which each begins at its start and ends where the next one begins
abbrev pub layers_of : List ℕ → List CoverRow → List (List CoverRow)
layers_of [] rows = []
layers_of (start ∷ []) rows = drop start rows ∷ []
layers_of (start ∷ next ∷ starts) rows = slice_range rows start next ∷ layers_of (next ∷ starts) rows

-- the span's words and arcs lie within the blocks
pub record IsWithin (words arcs : ℕ) (span : Span) : Type 0 where
  pub words_rise : span.words_from ≤ span.words_to
  pub words_end : span.words_to ≤ words
  pub arcs_rise : span.arcs_from ≤ span.arcs_to
  pub arcs_end : span.arcs_to ≤ arcs

-- the starts rise up to the number of rows
abbrev pub RiseTo : List ℕ → ℕ → Type 0
RiseTo [] rows = Unit {0}
RiseTo (start ∷ []) rows = start ≤ rows
RiseTo (start ∷ next ∷ starts) rows = (start ≤ next) × RiseTo (next ∷ starts) rows

-- each layer has fewer than 2^32 rows, so that a number of 32 bits counts them
abbrev pub AreShort : List (List CoverRow) → Type 0
AreShort layers = Each (λ layer. length layer < 2 ^ 32) layers

-- the last layer; none is empty
abbrev pub last_layer : List (List CoverRow) → List CoverRow
last_layer [] = []
last_layer (layer ∷ []) = layer
last_layer (layer ∷ next ∷ layers) = last_layer (next ∷ layers)

-- the starts rise to the number of rows, and each span's words and arcs lie within the blocks
pub record IsStored (starts : List ℕ) (heads : List Span) (words arcs : ℕ) : Type 0 where
  pub starts_rise : RiseTo starts (length heads)
  pub within : Each (IsWithin words arcs) heads

-- the layers with a further row in the last one
abbrev pub with_row : List (List CoverRow) → CoverRow → List (List CoverRow)
with_row [] row = []
with_row (layer ∷ []) row = (layer ++ row ∷ []) ∷ []
with_row (layer ∷ next ∷ layers) row = layer ∷ with_row (next ∷ layers) row

-- a row as a reader shows it
abbrev pub shown_row : RowRef → CoverRow
shown_row row = record { bound = row.bound; words = row.words.now; arcs = cond row.has_arcs (Some row.arcs.now) None }

-- an arc to a row, as the code tests it: with the gain and the next state at hand
abbrev pub to_row_fault : Dp → ℕ → ℕ → ℤ → List ℤ → Option ℤ → ℕ → Option CoverRow → Option Why
to_row_fault dp k i gain step bound d None = Some (Target k i d)
to_row_fault dp k i gain step bound d (Some next) =
    cond (is_state_row dp (k + 1) next.words) (gap_fault k i d bound gain (dp.gap (k + 1) next.words step) next.bound) (Some (Target k i d))

-- the place of a row of a layer that begins at `start` and ends before `end`, or none where the layer has no such row
abbrev pub place_from : ℕ → ℕ → ℕ → Option ℕ
place_from row end start = cond (nat_lt row (end - start)) (Some (start + row)) None

-- the place among all rows of a row of a layer, or none where there is none
abbrev pub place_at : List ℕ → ℕ → ℕ → ℕ → Option ℕ
place_at starts rows layer row = option_and_then (place_from row (unwrap_or (slice_get starts (layer + 1)) rows)) (slice_get starts layer)

-- how many rows a layer has
abbrev pub count_at : List ℕ → ℕ → ℕ → ℕ
count_at starts rows layer = unwrap_or (option_map (λ start. unwrap_or (slice_get starts (layer + 1)) rows - start) (slice_get starts layer)) 0

-- where a layer begins; one that does not exist begins after all rows
abbrev pub start_at : List ℕ → ℕ → ℕ → ℕ
start_at starts rows layer = unwrap_or (slice_get starts layer) rows

-- this many rows from a place on
abbrev pub rows_from : List Head → List ℤ → List CoverArc → ℕ → ℕ → List CoverRow
rows_from heads words arcs first count = slice_range (map (row_of words arcs) (spans heads)) first (first + count)
