-- What the test of a line says.
use Rattle.std.specs.Prelude.{◌<◌, ◌≤◌, ℕ, pos, neg_ℤ, ◌≤ℤ◌}
use Rattle.qubo.specs.declared.line.Line.{Line}

-- a line of two of n variables, the first not after the second, with a weight within its limits
pub record IsLine (n : ℕ) (l : Line) : Type 0 where
  pub order : l.first ≤ l.second
  pub within : l.second < n
  pub low : neg_ℤ (pos 250000000) ≤ℤ l.weight
  pub high : l.weight ≤ℤ pos 250000000
