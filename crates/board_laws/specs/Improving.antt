-- What Improve answers.
use Rattle.std.specs.Prelude.{ℕ, ℤ, List, Option, Some, None, IsTrue}
use Rattle.dp_model.specs.Dp.{Dp}
use Rattle.dp_model.specs.Numbers.{AtMost, is_above}
use Rattle.dp_model.specs.Prefixes.{IsSolution, value_of}
use Rattle.dp_model.specs.Solution.{IsSolutionWith}
use Rattle.board_laws.specs.declared.improved.Improved.{Improved}
use Rattle.board_laws.specs.declared.improved.Improved.TheVariants.{Yes, NotBetter, NoSolution}
use Rattle.board_laws.specs.Board.{BoardState, incumbent_value}
use Rattle.board_laws.specs.Steps.{improved}

-- exactly where the decisions are no feasible solution, where they are one of at most the incumbent's value, and else
abbrev pub ImproveGives : Dp → BoardState → List ℕ → Improved → Type 0
ImproveGives dp b x NoSolution = IsSolution dp x → ⊥
ImproveGives dp b x NotBetter = IsSolution dp x × AtMost (value_of dp x) (incumbent_value b)
ImproveGives dp b x Yes = IsSolution dp x × (AtMost (value_of dp x) (incumbent_value b) → ⊥)

-- Improve, where the solution is better
abbrev pub after_offer : Dp → Improved → BoardState → List ℕ → BoardState
after_offer dp Yes b x = improved b (record { decisions = x; value = value_of dp x })
after_offer dp NotBetter b x = b
after_offer dp NoSolution b x = b

-- a feasible solution with its value, which is greater than the incumbent's
pub record IsBetter (dp : Dp) (b : BoardState) (x : List ℕ) (v : ℤ) : Type 0 where
  pub solution : IsSolutionWith dp x v
  pub above : IsTrue (is_above (incumbent_value b) v)

-- the value of the decisions where Improve would take them, and none exactly where it would not
abbrev pub BetterGives : Dp → BoardState → List ℕ → Option ℤ → Type 0
BetterGives dp b x None = IsSolution dp x → AtMost (value_of dp x) (incumbent_value b)
BetterGives dp b x (Some v) = IsBetter dp b x v
