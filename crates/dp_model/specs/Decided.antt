-- Taking a decision in a state.
use Rattle.std.specs.Prelude.{◌≡◌, ℕ, ℤ, List, Option, Some, None}
use Rattle.dp_model.specs.Dp.{Dp, IsAllowed}

-- the decision is allowed in the state, with this gain and this next state
pub record IsDecided (dp : Dp) (k : ℕ) (s : List ℤ) (d : ℕ) (after : List ℤ) (gained : ℤ) : Type 0 where
  pub allowed : IsAllowed dp k s d
  pub gain : gained ≡ dp.gain k s d
  pub row : after ≡ dp.step k s d

-- the gain of a decision, with the next state in the row; none exactly where the decision is not allowed
abbrev pub DecisionGives : Dp → ℕ → List ℤ → ℕ → List ℤ → Option ℤ → Type 0
DecisionGives dp k s d after None = IsAllowed dp k s d → ⊥
DecisionGives dp k s d after (Some gained) = IsDecided dp k s d after gained
