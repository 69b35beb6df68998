-- Solutions with their values.
use Rattle.std.specs.Prelude.{◌≡◌, ℕ, ℤ, List, Option, Some, None}
use Rattle.dp_model.specs.Dp.{Dp}
use Rattle.dp_model.specs.Prefixes.{IsSolution, value_of}

-- the decisions of a solution, and its value
pub record Solution : Type 0 where
  pub decisions : List ℕ
  pub value : ℤ

-- the decisions are a feasible solution, with this value
pub record IsSolutionWith (dp : Dp) (x : List ℕ) (v : ℤ) : Type 0 where
  pub solution : IsSolution dp x
  pub value : v ≡ value_of dp x

-- the value of the decisions where they are a feasible solution, and none exactly where they are none
abbrev pub SolutionGives : Dp → List ℕ → Option ℤ → Type 0
SolutionGives dp x None = IsSolution dp x → ⊥
SolutionGives dp x (Some v) = IsSolutionWith dp x v
