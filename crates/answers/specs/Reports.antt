-- When a report is true.
use Rattle.std.specs.Prelude.{◌≡◌, ℕ, ℤ, pos, ◌+ℤ◌, ◌≤ℤ◌, List, Option, Some, None}
use Rattle.dp_model.specs.Solution.{Solution}
use Rattle.dp_model.specs.Best.{best}
use Rattle.dp_model.specs.Dp.{Dp}
use Rattle.dp_model.specs.Prefixes.{IsSolution, value_of}
use Rattle.bound_cover.specs.Proved.{LiesWithin}

-- a feasible solution with its value, in the states and gains and in the problem's own words
pub record IsFeasible (dp : Dp) (own : List ℕ → Option ℤ) (found : Solution) : Type 0 where
  pub solution : IsSolution dp found.decisions
  pub value : found.value ≡ value_of dp found.decisions
  pub own_words : own found.decisions ≡ Some found.value

abbrev pub IncumbentIsFeasible : Dp → (List ℕ → Option ℤ) → Option Solution → Type 0
IncumbentIsFeasible dp own None = Unit {0}
IncumbentIsFeasible dp own (Some found) = IsFeasible dp own found

-- no list that is a solution in the problem's own words is worth more than this
abbrev pub NoneIsWorthMore : (List ℕ → Option ℤ) → ℤ → Type 0
NoneIsWorthMore own value = (x : List ℕ) (worth : ℤ) → own x ≡ Some worth → worth ≤ℤ value

-- a feasible solution of the greatest value, in both senses
pub record IsProved (dp : Dp) (own : List ℕ → Option ℤ) (found : Solution) : Type 0 where
  pub found_one : IsFeasible dp own found
  pub is_best : best dp ≡ Some found.value
  pub own_best : NoneIsWorthMore own found.value

-- a feasible solution from which no other is further above than the distance, in both senses; with the distance 0 it is of the greatest value
pub record IsProvedWithin (dp : Dp) (own : List ℕ → Option ℤ) (within : ℤ) (found : Solution) : Type 0 where
  pub found_one : IsFeasible dp own found
  pub near : LiesWithin (best dp) (Some found.value) within
  pub own_near : NoneIsWorthMore own (found.value +ℤ within)
  pub exact : within ≡ pos 0 → IsProved dp own found

-- there is no feasible solution, and no list is one in the problem's own words
pub record IsInfeasible (dp : Dp) (own : List ℕ → Option ℤ) : Type 0 where
  pub no_best : best dp ≡ None
  pub no_solution : (x : List ℕ) → IsSolution dp x → ⊥
  pub no_own : (x : List ℕ) → own x ≡ None
