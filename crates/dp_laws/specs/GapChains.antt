-- Gaps along a chain of states.
use Rattle.std.specs.Prelude.{◌≡◌, ℕ, ℤ, pos, ◌+ℤ◌, List, [], ◌∷◌, Some}
use Rattle.dp_model.specs.Dp.{Dp}
use Rattle.dp_model.specs.Gaps.{IsStateOf, IsSoundGap, HasGapWithin}

-- a state with the gap that the state before it in the chain has to it
pub record Link : Type 0 where
  pub row : List ℤ
  pub gap : ℤ

-- each state of the chain has its gap to the next, the state a to the first
abbrev pub IsChain : Dp → ℕ → List ℤ → List Link → Type 0
IsChain dp k a [] = Unit {0}
IsChain dp k a (s ∷ chain) = IsStateOf dp k s.row × (dp.gap k a s.row ≡ Some s.gap) × IsChain dp k s.row chain

-- the last state of the chain, which is a itself where the chain is empty
abbrev pub last_of : List ℤ → List Link → List ℤ
last_of a [] = a
last_of a (s ∷ chain) = last_of s.row chain

-- the sum of the gaps
abbrev pub all_gaps : List Link → ℤ
all_gaps [] = pos 0
all_gaps (s ∷ chain) = s.gap +ℤ all_gaps chain

-- along a chain the first state has a gap to the last of at most the sum of the gaps
abbrev pub GapsAddUp : Dp → Type 0
GapsAddUp dp = (k : ℕ) (a : List ℤ) (chain : List Link) → IsStateOf dp k a → IsChain dp k a chain → HasGapWithin dp k a (last_of a chain) (all_gaps chain)

-- along a chain the sum of the gaps is sound: each continuation of the last state has one of the first that gains no less than by that
abbrev pub ChainsMatch : Dp → Type 0
ChainsMatch dp = (k : ℕ) (a : List ℤ) (chain : List Link) → IsStateOf dp k a → IsChain dp k a chain → IsSoundGap dp k a (last_of a chain) (all_gaps chain)
