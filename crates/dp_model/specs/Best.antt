-- The greatest value of a feasible solution.
use Rattle.std.specs.Prelude.{◌≡◌, ℕ, zero, suc, ◌+◌, ℤ, ◌≤ℤ◌, List, [], ◌∷◌, map, filter, Option, Some, None}
use Rattle.std.specs.List.{flat_map}
use Rattle.dp_model.specs.Dp.{Dp}
use Rattle.dp_model.specs.Decisions.{below}
use Rattle.dp_model.specs.Numbers.{greatest}
use Rattle.dp_model.specs.Prefixes.{IsSolution, value_of}

-- the lists of n decisions that are allowed one after another from the state at the layer
abbrev pub paths_of : Dp → ℕ → ℕ → List ℤ → List (List ℕ)
paths_of dp zero k s = [] ∷ []
paths_of dp (suc n) k s = flat_map (λ d. map (λ c. d ∷ c) (paths_of dp n (k + 1) (dp.step k s d))) (filter (dp.allowed k s) (below (dp.choices k)))

-- the feasible solutions
abbrev pub solutions : Dp → List (List ℕ)
solutions dp = paths_of dp dp.vars 0 dp.root

-- Best: the greatest value of a feasible solution, and none where there is none
abbrev pub best : Dp → Option ℤ
best dp = greatest (map (value_of dp) (solutions dp))

-- the number is the value of a feasible solution, and no feasible solution has more
pub record IsGreatest (dp : Dp) (v : ℤ) : Type 0 where
  pub by : List ℕ
  pub solution : IsSolution dp by
  pub value : value_of dp by ≡ v
  pub most : (x : List ℕ) → IsSolution dp x → value_of dp x ≤ℤ v

-- the option is the greatest value of a feasible solution, and none where there is none
abbrev pub IsBest : Dp → Option ℤ → Type 0
IsBest dp None = (x : List ℕ) → IsSolution dp x → ⊥
IsBest dp (Some v) = IsGreatest dp v
