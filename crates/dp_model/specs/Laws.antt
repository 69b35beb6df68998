-- The laws that every problem is proved to meet.
use Rattle.std.specs.Prelude.{◌≡◌, ℕ, ◌+◌, ◌<◌, ◌≤◌, ℤ, pos, ◌+ℤ◌, ◌≤ℤ◌, List, length, Some, IsTrue}
use Rattle.dp_model.specs.Dp.{Dp, IsAllowed}
use Rattle.dp_model.specs.Gaps.{IsStateOf, IsSoundGap, HasGap, HasGapWithin}
use Rattle.dp_model.specs.Lists.{Each}
use Rattle.dp_model.specs.Numbers.{AtMost, IsSmall}
use Rattle.dp_model.specs.Prefixes.{IsContinuation, gain_of}

-- root and steps are states: the root is a state of layer 0, and step and merge give states of their layer
pub record StepsAreStates (dp : Dp) : Type 0 where
  pub root : IsTrue (dp.is_state 0 dp.root)
  pub step : (k : ℕ) (s : List ℤ) (d : ℕ) → IsStateOf dp k s → IsAllowed dp k s d → IsTrue (dp.is_state (k + 1) (dp.step k s d))
  pub merged : (k : ℕ) (a s : List ℤ) → IsStateOf dp k a → IsStateOf dp k s → IsTrue (dp.is_state k (dp.merged k a s))

-- gap is sound, own gap is zero, and merge covers what its two states cover
pub record GapsAreSound (dp : Dp) : Type 0 where
  pub sound : (k : ℕ) (a s : List ℤ) (g : ℤ) → IsStateOf dp k a → IsStateOf dp k s → dp.gap k a s ≡ Some g → IsSoundGap dp k a s g
  pub own : (k : ℕ) (s : List ℤ) → IsStateOf dp k s → dp.gap k s s ≡ Some (pos 0)
  pub merge_new : (k : ℕ) (a s : List ℤ) → IsStateOf dp k a → IsStateOf dp k s → HasGap dp k (dp.merged k a s) s
  pub merge_old : (k : ℕ) (a s u : List ℤ) → IsStateOf dp k a → IsStateOf dp k s → IsStateOf dp k u → HasGap dp k a u → HasGap dp k (dp.merged k a s) u

-- rough bounds: no continuation gains more, none means that there is none, and at the last layer it is zero
pub record RoughBounds (dp : Dp) : Type 0 where
  pub bounds : (k : ℕ) (s : List ℤ) (c : List ℕ) → IsStateOf dp k s → IsContinuation dp k s c → AtMost (gain_of dp k s c) (dp.rough k s)
  pub last : (s : List ℤ) → IsStateOf dp dp.vars s → dp.rough dp.vars s ≡ Some (pos 0)

-- sizes: what is counted is at most 1024, and numbers are at most 2^50 in size
pub record SizesHold (dp : Dp) : Type 0 where
  pub vars : dp.vars ≤ 1024
  pub some_words : 1 ≤ dp.words
  pub words : dp.words ≤ 1024
  pub some_choices : (k : ℕ) → k < dp.vars → 1 ≤ dp.choices k
  pub choices : (k : ℕ) → k < dp.vars → dp.choices k ≤ 1024
  pub root_value : IsSmall dp.root_value
  pub cells : (k : ℕ) (s : List ℤ) → IsStateOf dp k s → length s ≡ dp.words
  pub state : (k : ℕ) (s : List ℤ) → IsStateOf dp k s → Each IsSmall s
  pub gain : (k : ℕ) (s : List ℤ) (d : ℕ) → IsStateOf dp k s → IsAllowed dp k s d → IsSmall (dp.gain k s d)
  pub gap : (k : ℕ) (a s : List ℤ) (g : ℤ) → IsStateOf dp k a → IsStateOf dp k s → dp.gap k a s ≡ Some g → (pos 0 ≤ℤ g) × IsSmall g
  pub rough : (k : ℕ) (s : List ℤ) (r : ℤ) → IsStateOf dp k s → dp.rough k s ≡ Some r → IsSmall r

-- the six laws: the first in `states`, the second to fourth in `gaps`, the fifth in `rough`, the sixth in `sizes`
pub record IsLawful (dp : Dp) : Type 0 where
  pub states : StepsAreStates dp
  pub gaps : GapsAreSound dp
  pub rough : RoughBounds dp
  pub sizes : SizesHold dp

-- the chain: where a covers b and b covers c, a covers c, by no more than the sum of the two gaps
abbrev pub IsChained : Dp → Type 0
IsChained dp = (k : ℕ) (a b c : List ℤ) (g h : ℤ) → IsStateOf dp k a → IsStateOf dp k b → IsStateOf dp k c
    → dp.gap k a b ≡ Some g → dp.gap k b c ≡ Some h → HasGapWithin dp k a c (g +ℤ h)

-- states of a layer may be merged in any order: two may change places, and of three any two may be merged first
pub record MergesInAnyOrder (dp : Dp) : Type 0 where
  pub swapped : (k : ℕ) (a b : List ℤ) → IsStateOf dp k a → IsStateOf dp k b → dp.merged k a b ≡ dp.merged k b a
  pub regrouped : (k : ℕ) (a b c : List ℤ) → IsStateOf dp k a → IsStateOf dp k b → IsStateOf dp k c
      → dp.merged k (dp.merged k a b) c ≡ dp.merged k a (dp.merged k b c)
