-- Maximum cut in its own words: a side for each vertex, and the weight across.
use Rattle.std.specs.Prelude.{ℕ, ℤ, pos, ◌+ℤ◌, List, [], ◌∷◌, length, take, drop, Bool, true, ◌&&◌, ◌==◌, nat_lt, if◌then◌else◌, Option, Some, None}
use Rattle.std.specs.List.{list_all}
use Rattle.max_cut.specs.Graph.{Graph}

-- the weight between a vertex on the side d and the later vertices on another side
abbrev pub across_from : ℕ → List ℤ → List ℕ → ℤ
across_from d [] sides = pos 0
across_from d (w ∷ ws) [] = pos 0
across_from d (w ∷ ws) (e ∷ sides) = (if d == e then pos 0 else w) +ℤ across_from d ws sides

-- the weight of the pairs on different sides, where the weights of all pairs stand by the first vertex, then by the second
abbrev pub weight_across : List ℤ → List ℕ → ℤ
weight_across ws [] = pos 0
weight_across ws (d ∷ sides) = across_from d (take (length sides) ws) sides +ℤ weight_across (drop (length sides) ws) sides

-- whether vertex 0, where there is one, is on S
abbrev pub begins_on_S : List ℕ → Bool
begins_on_S [] = true
begins_on_S (d ∷ sides) = d == 0

-- whether there is a side for each vertex, S (0) or T (1), with vertex 0 on S
abbrev pub is_cut : Graph → List ℕ → Bool
is_cut g sides = length sides == g.vertices && (begins_on_S sides && list_all (λ d. nat_lt d 2) sides)

-- the weight across, or none where the sides are no cut
abbrev pub cut_value : Graph → List ℕ → Option ℤ
cut_value g sides = if is_cut g sides then Some (weight_across g.weights sides) else None
