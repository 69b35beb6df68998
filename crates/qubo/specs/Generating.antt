-- Instances that are drawn from a seed: four lines for each variable, each by three draws.
use Rattle.std.specs.Prelude.{ℕ, ◌+◌, ◌-◌, ◌*◌, ◌%◌, pos, ◌-ℤ◌, List, [], ◌∷◌, ◌++◌}
use Rattle.draws.specs.Draws.{next, drawn, steps}
use Rattle.qubo.specs.declared.line.Line.{Line}
use Rattle.qubo.specs.Quadratic.{Quadratic}

-- the second variable is the first one or a later one, and the weight from -100 to 100
abbrev pub line_drawn : ℕ → ℕ → Line
line_drawn n x =
    let first = drawn x % n in
    record { first = first; second = first + drawn (next x) % (n - first); weight = pos (drawn (next (next x)) % 201) -ℤ pos 100 }

-- the draws that it leaves
abbrev pub after_line : ℕ → ℕ
after_line x = next (next (next x))

-- the lines with one more
abbrev pub with_drawn : ℕ → List Line → ℕ → List Line × ℕ
with_drawn n lines x = (lines ++ line_drawn n x ∷ [], after_line x)

-- the instance of n variables from a seed
abbrev pub generated : ℕ → ℕ → Quadratic
generated n seed = record { variables = n; lines = (steps (with_drawn n) (4 * n) [] seed).0 }
