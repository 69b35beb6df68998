-- The value in the problem's own words: a 0 or a 1 for each variable, and the sum of the lines whose variables are 1.
use Rattle.std.specs.Prelude.{ℕ, ℤ, pos, ◌+ℤ◌, Bool, ◌&&◌, ◌==◌, nat_lt, List, [], ◌∷◌, length, slice_index_or, Option, Some, None, if◌then◌else◌}
use Rattle.std.specs.List.{list_all}
use Rattle.qubo.specs.declared.line.Line.{Line}
use Rattle.qubo.specs.Quadratic.{Quadratic}

-- whether the variable is 1
abbrev pub is_one : List ℕ → ℕ → Bool
is_one xs i = slice_index_or xs i 0 == 1

-- what a line adds: its weight where both of its variables are 1
abbrev pub line_value : List ℕ → Line → ℤ
line_value xs l = if is_one xs l.first && is_one xs l.second then l.weight else pos 0

-- the sum over the lines
abbrev pub lines_value : List ℕ → List Line → ℤ
lines_value xs [] = pos 0
lines_value xs (l ∷ ls) = line_value xs l +ℤ lines_value xs ls

-- whether there is a 0 or a 1 for each variable
abbrev pub is_assignment : Quadratic → List ℕ → Bool
is_assignment q xs = length xs == q.variables && list_all (λ x. nat_lt x 2) xs

-- the value, and none for another list
abbrev pub own_value : Quadratic → List ℕ → Option ℤ
own_value q xs = if is_assignment q xs then Some (lines_value xs q.lines) else None
