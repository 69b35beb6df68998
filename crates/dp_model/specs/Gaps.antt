-- When one state covers another, and what a rough bound bounds.
use Rattle.std.specs.Prelude.{◌≡◌, ℕ, ◌≤◌, ℤ, ◌+ℤ◌, ◌≤ℤ◌, Bool, true, false, cond, int_le, List, Option, Some, None, IsTrue}
use Rattle.dp_model.specs.Dp.{Dp}
use Rattle.dp_model.specs.Prefixes.{IsContinuation, gain_of}

-- the state is one of the layer
pub record IsStateOf (dp : Dp) (k : ℕ) (s : List ℤ) : Type 0 where
  pub layer : k ≤ dp.vars
  pub test : IsTrue (dp.is_state k s)

-- a continuation of the state a whose gain and g are no less than the number
pub record Matches (dp : Dp) (k : ℕ) (a : List ℤ) (g least : ℤ) : Type 0 where
  pub by : List ℕ
  pub continuation : IsContinuation dp k a by
  pub enough : least ≤ℤ (gain_of dp k a by +ℤ g)

-- sound gap: each continuation of s has a continuation of a whose gain and g are no less
abbrev pub IsSoundGap : Dp → ℕ → List ℤ → List ℤ → ℤ → Type 0
IsSoundGap dp k a s g = (c : List ℕ) → IsContinuation dp k s c → Matches dp k a g (gain_of dp k s c)

-- the state a has a gap to s
pub record HasGap (dp : Dp) (k : ℕ) (a s : List ℤ) : Type 0 where
  pub gap : ℤ
  pub is : dp.gap k a s ≡ Some gap

-- the state a has a gap to s of at most this number
pub record HasGapWithin (dp : Dp) (k : ℕ) (a s : List ℤ) (most : ℤ) : Type 0 where
  pub gap : ℤ
  pub is : dp.gap k a s ≡ Some gap
  pub within : gap ≤ℤ most

-- whether a gap lifts the number to at most another one
abbrev pub covers_at : Option ℤ → ℤ → ℤ → Bool
covers_at None above number = false
covers_at (Some gap) above number = int_le (number +ℤ gap) above

-- whether a state is struck: its value plus its rough bound is at most the threshold, or it has no rough bound
abbrev pub is_struck_by : ℤ → Option ℤ → Option ℤ → Bool
is_struck_by value None threshold = true
is_struck_by value (Some rough) None = false
is_struck_by value (Some rough) (Some threshold) = int_le (value +ℤ rough) threshold

-- the gap where it is there and at most the number
abbrev pub within : ℤ → Option ℤ → Option ℤ
within most None = None
within most (Some gap) = cond (int_le gap most) (Some gap) None
