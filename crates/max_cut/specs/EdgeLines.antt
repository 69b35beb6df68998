-- The canonical text of a graph.
use Rattle.std.specs.Prelude.{ℕ, zero, suc, ◌+◌, ℤ, pos, int_le, List, [], ◌∷◌, ◌++◌, Bool, ◌&&◌, if◌then◌else◌}
use Rattle.tokens.specs.Decimal.{ended, spaced}
use Rattle.max_cut.specs.Graph.{Graph, row_of}

-- whether no edge stands
abbrev pub is_none : ℤ → Bool
is_none w = int_le w (pos 0) && int_le (pos 0) w

-- how many edges there are
abbrev pub edges_in : List ℤ → ℕ
edges_in [] = 0
edges_in (w ∷ ws) = (if is_none w then 0 else 1) + edges_in ws

-- the line of an edge, with vertices from 1
abbrev pub edge_line : ℕ → ℕ → ℤ → List ℕ
edge_line i j w = spaced (i + 1) ++ (spaced (j + 1) ++ ended w)

-- the lines of the edges between i and the vertices from j on
abbrev pub row_lines : ℕ → ℕ → List ℤ → List ℕ
row_lines i j [] = []
row_lines i j (w ∷ ws) = (if is_none w then [] else edge_line i j w) ++ row_lines i (j + 1) ws

-- the lines of this many vertices from k on
abbrev pub lines_from : Graph → ℕ → ℕ → List ℕ
lines_from g k zero = []
lines_from g k (suc m) = row_lines k (k + 1) (row_of g k) ++ lines_from g (k + 1) m

-- n and m, then the edges by their first vertex, then by their second
abbrev pub text_of : Graph → List ℕ
text_of g = spaced g.vertices ++ (ended (pos (edges_in g.weights)) ++ lines_from g 0 g.vertices)
