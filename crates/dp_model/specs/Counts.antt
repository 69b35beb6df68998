-- How many prefixes there are.
use Rattle.std.specs.Prelude.{ℕ, zero, suc, ◌+◌, ◌-◌, ℤ, List, [], length, filter, sum_by}
use Rattle.dp_model.specs.Dp.{Dp}
use Rattle.dp_model.specs.Decisions.{below}
use Rattle.dp_model.specs.Prefixes.{state_of}

-- the lists of fewer than n decisions that are allowed one after another from the state, the empty one among them
abbrev pub paths_from : Dp → ℕ → ℕ → List ℤ → ℕ
paths_from dp zero k s = 0
paths_from dp (suc n) k s = 1 + sum_by (λ d. paths_from dp n (k + 1) (dp.step k s d)) (filter (dp.allowed k s) (below (dp.choices k)))

-- Pot: the number of prefixes shorter than n that begin with p, itself among them
abbrev pub pot : Dp → List ℕ → ℕ
pot dp p = paths_from dp (dp.vars - length p) (length p) (state_of dp p)

-- Tree: Pot of the empty prefix
abbrev pub tree : Dp → ℕ
tree dp = pot dp []
