-- Graphs with a weight for each pair of vertices.
use Rattle.std.specs.Prelude.{◌≡◌, ℕ, ◌+◌, ◌-◌, ◌≤◌, ℤ, pos, ◌+ℤ◌, ◌≤ℤ◌, unsigned_abs, List, [], ◌∷◌, length, take, drop}
use Rattle.std.specs.Int.{int_min}
use Rattle.std.specs.List.{All}
use Rattle.benefit_rows.specs.Benefits.{size_of}
use Rattle.pair_rows.specs.Pairs.{pair_count as pairs_of, entries_before as row_start}

-- the vertices are numbered from 0; the weights of their pairs stand by the first vertex, then by the second
pub record Graph : Type 0 where
  pub vertices : ℕ
  pub weights : List ℤ

-- a weight is at most 500,000,000 in size
abbrev pub IsWeight : ℤ → Type 0
IsWeight w = size_of w ≤ℤ pos 500000000

-- at most 1024 vertices, with a weight for each pair
pub record IsGraph (g : Graph) : Type 0 where
  pub few : g.vertices ≤ 1024
  pub whole : length g.weights ≡ pairs_of g.vertices
  pub small : All IsWeight g.weights

-- the numbers of an instance: how many vertices, then the weights
abbrev pub numbers_of : Graph → List ℤ
numbers_of g = pos g.vertices ∷ g.weights

-- the graph that such numbers spell
abbrev pub instance_of : List ℤ → Graph
instance_of [] = record { vertices = 0; weights = [] }
instance_of (n ∷ ws) = record { vertices = unsigned_abs n; weights = ws }

-- the weights of the pairs of vertices from k on
abbrev pub weights_from : Graph → ℕ → List ℤ
weights_from g k = drop (row_start g.vertices k) g.weights

-- the weights of the pairs of k and each later vertex
abbrev pub row_of : Graph → ℕ → List ℤ
row_of g k = take (g.vertices - (k + 1)) (weights_from g k)

-- the sum of the negative numbers of a list
abbrev pub negatives_of : List ℤ → ℤ
negatives_of [] = pos 0
negatives_of (w ∷ ws) = int_min w (pos 0) +ℤ negatives_of ws
