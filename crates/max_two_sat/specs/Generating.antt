-- Instances that are drawn from a seed.
use Rattle.std.specs.Prelude.{ℕ, ◌+◌, ◌*◌, ◌%◌, ◌==◌, pos, ◌≤ℤ◌, None}
use Rattle.draws.specs.Draws.{next, drawn, steps}
use Rattle.max_two_sat.specs.declared.clause.Literal.{Literal}
use Rattle.max_two_sat.specs.declared.clause.Literals.TheVariants.{Two}
use Rattle.max_two_sat.specs.declared.header.Form.TheVariants.{Weighted}
use Rattle.max_two_sat.specs.Instance.{Instance}
use Rattle.max_two_sat.specs.Clauses.{Gathered, gathered_with, nothing_gathered}
use Rattle.max_two_sat.specs.Room.{IsGathering}

-- a literal on one of n variables, by two draws: the variable, and that it is negated where the second is odd
abbrev pub literal_drawn : ℕ → ℕ → Literal
literal_drawn n x = record { variable = drawn x % n; positive = drawn (next x) % 2 == 0 }

-- the draws that it leaves
abbrev pub after_literal : ℕ → ℕ
after_literal x = next (next x)

-- what is gathered with a clause more, by five draws: two literals, and a weight from 1 to 10
abbrev pub clause_drawn : ℕ → Gathered → ℕ → Gathered
clause_drawn n g x =
    let second = after_literal x in
    gathered_with g (pos (1 + drawn (after_literal second) % 10)) (Two (literal_drawn n x) (literal_drawn n second))

-- the draws that it leaves
abbrev pub after_clause : ℕ → ℕ
after_clause x = next (after_literal (after_literal x))

abbrev pub with_clause_drawn : ℕ → Gathered → ℕ → Gathered × ℕ
with_clause_drawn n g x = (clause_drawn n g x, after_clause x)

-- the instance of n variables and 3 n clauses from a seed
abbrev pub generated : ℕ → ℕ → Instance
generated n seed = (steps (with_clause_drawn n) (3 * n) (nothing_gathered n) seed).0.instance

-- what is gathered of clauses on n variables, none of which weighs more than 10
pub record IsDrawing (n : ℕ) (g : Gathered) : Type 0 where
  pub under_way : IsGathering (record { variables = n; clauses = 3 * n; form = Weighted None }) g
  pub light : g.total ≤ℤ pos (10 * g.clauses)
