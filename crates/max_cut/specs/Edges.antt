-- The text of a graph: how many vertices and how many edges, then for each edge two vertices and a weight.
use Rattle.std.specs.Prelude.{ℕ, ◌+◌, ◌-◌, ◌^◌, ℤ, pos, negsuc, ◌+ℤ◌, int_le, nat_abs, List, slice_index_or, slice_set, ◌==◌, nat_lt, if◌then◌else◌, Result, Ok, Err}
use Rattle.benefit_rows.specs.Benefits.{size_of}
use Rattle.tokens.specs.Text.{TextState, text_start, number_at, place_of, after_token}
use Rattle.tokens.specs.declared.comment.Comment.TheVariants.{Never}
use Rattle.tokens.specs.declared.place.Place.{Place}
use Rattle.tokens.specs.declared.text_error.TextError.{TextError}
use Rattle.tokens.specs.declared.text_error.TextError.TheVariants.{NotNumber, OutOfRange, EndOfText, Trailing, NotAscii}
use Rattle.tokens.specs.declared.instance_error.InstanceError.{InstanceError}
use Rattle.tokens.specs.Grammar.{of_text, number_then, end_then, part_then, times}
use Rattle.tokens.specs.declared.instance_error.InstanceFault.TheVariants.{Vertex, Limit}
use Rattle.pair_rows.specs.Pairs.{pair_count as pairs_of, entries_before as row_start}
use Rattle.max_cut.specs.Graph.{Graph}
use Rattle.max_cut.specs.Program.{zeros}

-- the same fault at the same place, but a number outside the range of the vertices is no vertex
abbrev pub of_vertex : TextError → InstanceError
of_vertex (NotNumber p) = of_text (NotNumber p)
of_vertex (OutOfRange p) = record { fault = Vertex; place = p }
of_vertex (EndOfText p) = of_text (EndOfText p)
of_vertex (Trailing p) = of_text (Trailing p)
of_vertex (NotAscii p) = of_text (NotAscii p)

-- a vertex, which the text numbers from 1, or its fault
abbrev pub vertex_from : TextState → Result ℤ TextError → Result (ℕ × TextState) InstanceError
vertex_from following (Ok v) = Ok (nat_abs v - 1, following)
vertex_from following (Err e) = Err (of_vertex e)

-- the next token as one of n vertices
unfoldable pub vertex_at : ℕ → TextState → Result (ℕ × TextState) InstanceError
vertex_at n s = vertex_from (after_token s) (number_at (pos 1) (pos n) s)

-- where the pair of two different vertices stands among the pairs of n
abbrev pub place_among : ℕ → ℕ → ℕ → ℕ
place_among n i j = if nat_lt i j then row_start n i + (j - (i + 1)) else row_start n j + (i - (j + 1))

-- the totals with one of them replaced, where it is at most 500,000,000 in size
abbrev pub within_limit : List ℤ → ℕ → ℤ → Place → Result (List ℤ) InstanceError
within_limit totals at total place =
    if int_le (size_of total) (pos 500000000) then Ok (slice_set totals at total)
    else Err (record { fault = Limit; place = place })

-- the totals with an edge more, whose weight stands at the place: the weights of one pair add up, and a loop counts nothing
unfoldable pub with_edge : ℕ → List ℤ → ℕ → ℕ → ℤ → Place → Result (List ℤ) InstanceError
with_edge n totals i j w place =
    if i == j then Ok totals
    else within_limit totals (place_among n i j) (slice_index_or totals (place_among n i j) (pos 0) +ℤ w) place

-- what was made, and where reading stands after it
abbrev pub made_before : TextState → Result (List ℤ) InstanceError → Result (List ℤ × TextState) InstanceError
made_before following (Ok totals) = Ok (totals, following)
made_before following (Err e) = Err e

-- the totals after the next edge
unfoldable pub edge_at : ℕ → List ℤ → TextState → Result (List ℤ × TextState) InstanceError
edge_at n totals s =
    part_then (vertex_at n s) (λ i t.
    part_then (vertex_at n t) (λ j u.
    number_then (negsuc 499999999) (pos 500000000) u (λ w following.
    made_before following (with_edge n totals i j w (place_of u)))))

-- a graph: 0 to 1,024 vertices, 0 to 2^20 edges, this many edges, and the end of the text
unfoldable pub instance_at : TextState → Result Graph InstanceError
instance_at s =
    number_then (pos 0) (pos 1024) s (λ n t.
    number_then (pos 0) (pos (2 ^ 20)) t (λ m u.
    part_then (times (edge_at (nat_abs n)) (nat_abs m) (zeros (pairs_of (nat_abs n))) u) (λ totals v.
    end_then v (Ok (record { vertices = nat_abs n; weights = totals })))))

-- the graph that a text spells, or its first fault
abbrev pub instance_text : List ℕ → Result Graph InstanceError
instance_text bytes = instance_at (text_start Never bytes)
