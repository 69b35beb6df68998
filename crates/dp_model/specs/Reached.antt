-- A prefix with the state that it reaches and its value.
use Rattle.std.specs.Prelude.{ℕ, ℤ, List}
use Rattle.dp_model.specs.Dp.{Dp}
use Rattle.dp_model.specs.Prefixes.{state_of, value_of}

-- decisions, the state that they reach, and its value
pub record Reached : Type 0 where
  pub decisions : List ℕ
  pub row : List ℤ
  pub value : ℤ

-- a prefix with what it reaches
abbrev pub reached : Dp → List ℕ → Reached
reached dp p = record { decisions = p; row = state_of dp p; value = value_of dp p }
