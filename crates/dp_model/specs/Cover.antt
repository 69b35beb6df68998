-- What an incumbent and a list of prefixes keep of the feasible solutions.
use Rattle.std.specs.Prelude.{ℕ, ℤ, ◌≤ℤ◌, List, Option, ◌⊎◌}
use Rattle.dp_model.specs.Dp.{Dp}
use Rattle.dp_model.specs.Lists.{OneOf}
use Rattle.dp_model.specs.Numbers.{AtMost}
use Rattle.dp_model.specs.Prefixes.{IsSolution, IsCompletion, IsMatched, value_of}

-- frontier cover: each feasible solution is at most the incumbent or matched by a prefix of the list
abbrev pub Covers : Dp → Option ℤ → List (List ℕ) → Type 0
Covers dp inc P = (x : List ℕ) → IsSolution dp x → AtMost (value_of dp x) inc ⊎ OneOf (IsMatched dp x) P

-- the bound of a prefix is held: each completion is at most the bound or at most the incumbent
abbrev pub IsHeld : Dp → Option ℤ → List ℕ → ℤ → Type 0
IsHeld dp inc p bound = (x : List ℕ) → IsCompletion dp p x → (value_of dp x ≤ℤ bound) ⊎ AtMost (value_of dp x) inc
