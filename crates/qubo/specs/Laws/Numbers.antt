-- The numbers of an instance spell it.
use Rattle.std.proofs.Common.{◌≡◌, List, [], ◌∷◌, refl, ap}
use Rattle.qubo.specs.declared.line.Line.{Line}
use Rattle.qubo.specs.Quadratic.{Quadratic, instance_of, numbers_of, line_numbers, lines_of}

pub lines_of-line_numbers : (ls : List Line) → lines_of (line_numbers ls) ≡ ls
unfolding lines_of
lines_of-line_numbers [] = refl
lines_of-line_numbers (l ∷ ls) = ap (λ (rest : List Line). l ∷ rest) (lines_of-line_numbers ls)

pub ruleset round_trip = (lines_of-line_numbers)

pub instance_of-numbers_of : (q : Quadratic) → instance_of (numbers_of q) ≡ q
instance_of-numbers_of q = ap (λ (ls : List Line). let r : Quadratic = record { variables = q.variables; lines = ls } in r) (lines_of-line_numbers q.lines)
