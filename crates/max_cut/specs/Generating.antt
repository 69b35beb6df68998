-- Graphs that are drawn from a seed.
use Rattle.std.specs.Prelude.{ℕ, ◌%◌, ◌==◌, ℤ, pos, ◌-ℤ◌, Bool, List, [], ◌∷◌, ◌++◌, if◌then◌else◌}
use Rattle.draws.specs.Draws.{next, drawn, steps}
use Rattle.pair_rows.specs.Pairs.{pair_count as pairs_of}
use Rattle.max_cut.specs.Graph.{Graph}

-- one draw in four makes an edge
abbrev pub makes_edge : ℕ → Bool
makes_edge x = drawn x % 4 == 0

-- the weight of a pair: for an edge a further draw gives it, and without an edge it is 0
abbrev pub weight_drawn : ℕ → ℤ
weight_drawn x = if makes_edge x then pos (drawn (next x) % 21) -ℤ pos 10 else pos 0

-- the draws that it leaves
abbrev pub after_weight : ℕ → ℕ
after_weight x = if makes_edge x then next (next x) else next x

-- the weights with one more
abbrev pub with_weight : List ℤ → ℕ → List ℤ × ℕ
with_weight weights x = (weights ++ weight_drawn x ∷ [], after_weight x)

-- the graph of n vertices from a seed
abbrev pub generated : ℕ → ℕ → Graph
generated n seed = record { vertices = n; weights = (steps with_weight (pairs_of n) [] seed).0 }
