-- The steps by which members are reached, and the paths that they make.
use Rattle.std.specs.Prelude.{ℕ, ◌+◌, ◌<◌, ◌≤◌, List, [], ◌∷◌, ◌++◌, length, slice_index_or}
use Rattle.layer_candidates.specs.declared.key.Key.{Key}
use Rattle.layer_candidates.specs.declared.member.Member.{Member}
use Rattle.layer_candidates.specs.declared.step.Step.{Step}
use Rattle.layer_candidates.specs.declared.way.Way.{Way}
use Rattle.layer_candidates.specs.Ways.{way_at}

-- the paths with those of the steps: each is that of an earlier one with the decision
abbrev pub paths_after : List (List ℕ) → List Step → List (List ℕ)
paths_after paths [] = paths
paths_after paths (s ∷ steps) = paths_after (paths ++ (slice_index_or paths s.before [] ++ s.decision ∷ []) ∷ []) steps

-- the path of a step after the prefix, which is that of 0
abbrev pub path_at : List ℕ → List Step → ℕ → List ℕ
path_at prefix steps i = slice_index_or (paths_after (prefix ∷ []) steps) i []

-- the step of a key's way
abbrev pub step_of : List Way → Key → Step
step_of ways key = record { before = (way_at ways key.place).parent; decision = (way_at ways key.place).decision }

-- the keys of ways as members, by the steps after the n-th
abbrev pub entered : List Way → ℕ → List Key → List Member
entered ways n [] = []
entered ways n (key ∷ keys) = record { value = key.value; rank = key.rank; hash = (way_at ways key.place).hash; row = key.row; step = n + 1 } ∷ entered ways (n + 1) keys

-- no member is reached by a step after the n-th
abbrev pub IsReachedWithin : ℕ → Member → Type 0
IsReachedWithin n m = m.step ≤ n

-- the step at the place
abbrev pub step_at : List Step → ℕ → Step
step_at steps j = slice_index_or steps j (record { before = 0; decision = 0 })

-- each step is after an earlier one, or after the prefix
abbrev pub AreBackward : List Step → Type 0
AreBackward steps = (j : ℕ) → j < length steps → (step_at steps j).before ≤ j
