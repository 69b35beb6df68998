-- Dealing a problem out by prefixes: one prefix after another gives way to those that are longer by a decision.
use Rattle.std.specs.Prelude.{ℕ, nat_lt, ◌&&◌, cond, List, [], ◌∷◌, ◌++◌, length, map}
use Rattle.std.specs.List.{flat_map}
use Rattle.dp_model.specs.Dp.{Dp}
use Rattle.dp_model.specs.Decisions.{begins}
use Rattle.frontier_parts.specs.CoversBelow.{goes_on}

-- the prefixes that are longer by a decision; one that decides all stays
abbrev pub longer : Dp → List ℕ → List (List ℕ)
longer dp p = cond (nat_lt (length p) dp.vars) (map (λ d. p ++ d ∷ []) (goes_on dp p)) (p ∷ [])

abbrev pub split_at : Dp → List ℕ → List ℕ → List (List ℕ)
split_at dp q p = cond (begins p q && begins q p) (longer dp p) (p ∷ [])

-- what is dealt out once these prefixes have given way, the last one first; at the beginning it is the empty one
abbrev pub dealt : Dp → List (List ℕ) → List (List ℕ)
dealt dp [] = [] ∷ []
dealt dp (q ∷ qs) = flat_map (split_at dp q) (dealt dp qs)
