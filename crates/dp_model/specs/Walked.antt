-- Following decisions from the root.
use Rattle.std.specs.Prelude.{◌≡◌, ℕ, ℤ, List, Option, Some, None}
use Rattle.dp_model.specs.Dp.{Dp}
use Rattle.dp_model.specs.Prefixes.{IsPrefix, state_of, value_of}

-- the decisions are a prefix with this state and value
pub record IsWalked (dp : Dp) (p : List ℕ) (s : List ℤ) (v : ℤ) : Type 0 where
  pub prefix : IsPrefix dp p
  pub row : s ≡ state_of dp p
  pub value : v ≡ value_of dp p

-- the value of a prefix, with its state in the row; none exactly where the decisions are no prefix
abbrev pub WalkGives : Dp → List ℕ → List ℤ → Option ℤ → Type 0
WalkGives dp p row None = IsPrefix dp p → ⊥
WalkGives dp p row (Some value) = IsWalked dp p row value
