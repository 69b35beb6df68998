-- What it is to dominate.
use Rattle.std.specs.Prelude.{◌≡◌, ℕ, ℤ, ◌+ℤ◌, ◌≤ℤ◌, List, length, Some}
use Rattle.dp_model.specs.Dp.{Dp}
use Rattle.dp_model.specs.Gaps.{IsStateOf}
use Rattle.dp_model.specs.Prefixes.{IsPrefix, IsCompletion, IsContinuation, IsMatched, Reaches, gain_of, state_of, value_of}

-- the prefix a dominates the state s with this value at its layer: its state has a gap to s that lifts the value to at most its own
pub record Dominates (dp : Dp) (a : List ℕ) (s : List ℤ) (value : ℤ) : Type 0 where
  pub gap : ℤ
  pub is : dp.gap (length a) (state_of dp a) s ≡ Some gap
  pub within : (value +ℤ gap) ≤ℤ value_of dp a

-- where a prefix dominates a state with a value, each continuation of the state leads to no more than some completion of the prefix
abbrev pub ContinuationsAreMatched : Dp → Type 0
ContinuationsAreMatched dp = (a : List ℕ) (s : List ℤ) (value : ℤ) → IsPrefix dp a → IsStateOf dp (length a) s → Dominates dp a s value
    → (c : List ℕ) → IsContinuation dp (length a) s c → Reaches dp (value +ℤ gain_of dp (length a) s c) a

-- the completions of a dominated prefix are matched by the prefix of its layer that dominates it
abbrev pub CompletionsAreMatched : Dp → Type 0
CompletionsAreMatched dp = (a p : List ℕ) → IsPrefix dp a → IsPrefix dp p → length a ≡ length p → Dominates dp a (state_of dp p) (value_of dp p)
    → (x : List ℕ) → IsCompletion dp p x → IsMatched dp x a

-- of two prefixes of one depth and state, that of no less value matches the completions of the other
abbrev pub SameStatesMatch : Dp → Type 0
SameStatesMatch dp = (a p : List ℕ) → IsPrefix dp a → IsPrefix dp p → length a ≡ length p → state_of dp a ≡ state_of dp p → value_of dp p ≤ℤ value_of dp a
    → (x : List ℕ) → IsCompletion dp p x → IsMatched dp x a
