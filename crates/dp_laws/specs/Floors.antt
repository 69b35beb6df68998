-- Floors: what stands for an entry of a table of states and values, once the prefix that left it is gone.
use Rattle.std.specs.Prelude.{◌≡◌, ℕ, ◌≤◌, ℤ, ◌+ℤ◌, ◌≤ℤ◌, List, length, ◌⊎◌, Option, Some}
use Rattle.dp_model.specs.Dp.{Dp}
use Rattle.dp_model.specs.Gaps.{IsStateOf}
use Rattle.dp_model.specs.Lists.{OneOf}
use Rattle.dp_model.specs.Numbers.{AtMost}
use Rattle.dp_model.specs.Prefixes.{IsPrefix, IsCompletion, IsContinuation, Reaches, gain_of, state_of, value_of}

-- a prefix of at least this length has a completion of at least this value
pub record ReachesBelow (dp : Dp) (k : ℕ) (v : ℤ) (p : List ℕ) : Type 0 where
  pub deep : k ≤ length p
  pub reaches : Reaches dp v p

-- floor: each continuation of the state leads to no more than the reach, or than a completion of a prefix of the list that
-- is no shorter than the state's depth
abbrev pub IsFloor : Dp → Option ℤ → List (List ℕ) → ℕ → List ℤ → ℤ → Type 0
IsFloor dp reach P k a v =
    (c : List ℕ) → IsContinuation dp k a c → AtMost (v +ℤ gain_of dp k a c) reach ⊎ OneOf (ReachesBelow dp k (v +ℤ gain_of dp k a c)) P

-- a floor that dominates a prefix q of its depth: each completion of q is at most the reach, or matched by a prefix of the
-- list that is no shorter than q
abbrev pub FloorsMatch : Dp → Type 0
FloorsMatch dp = (reach : Option ℤ) (P : List (List ℕ)) (a : List ℤ) (v g : ℤ) (q : List ℕ) → IsPrefix dp q → IsStateOf dp (length q) a
    → IsFloor dp reach P (length q) a v → dp.gap (length q) a (state_of dp q) ≡ Some g → (value_of dp q +ℤ g) ≤ℤ v
    → (x : List ℕ) → IsCompletion dp q x → AtMost (value_of dp x) reach ⊎ OneOf (ReachesBelow dp (length q) (value_of dp x)) P

-- what the first list reaches at a depth or below, the second one does too, unless it is at most the reach
abbrev pub Carries : Dp → Option ℤ → List (List ℕ) → List (List ℕ) → Type 0
Carries dp reach P Q = (k : ℕ) (v : ℤ) → OneOf (ReachesBelow dp k v) P → AtMost v reach ⊎ OneOf (ReachesBelow dp k v) Q
