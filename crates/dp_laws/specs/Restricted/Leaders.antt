-- What a layer in order loses: what is struck by its rough bound, and what the leaders dominate.
use Rattle.std.specs.Prelude.{ℕ, ℤ, nat_le, Bool, false, not, cond, ◌||◌, List, [], ◌∷◌, ◌++◌, length, filter, Option}
use Rattle.dp_model.specs.Dp.{Dp}
use Rattle.dp_model.specs.Gaps.{covers_at, is_struck_by}
use Rattle.dp_model.specs.Reached.{Reached}
use Rattle.dp_model.specs.declared.limits.TheConstants.{MOST_LEADERS}

-- those with a rough bound that lifts them above the threshold, where there is one
abbrev pub unstruck : Dp → ℕ → Option ℤ → List Reached → List Reached
unstruck dp k t rs = filter (λ r. not (is_struck_by r.value (dp.rough k r.row) t)) rs

-- whether the first prefix dominates the second: its state has a gap to the other's, within the values' difference
abbrev pub dominates : Dp → ℕ → Reached → Reached → Bool
dominates dp k a r = covers_at (dp.gap k a.row r.row) a.value r.value

-- whether one of the leaders dominates the prefix
abbrev pub dominated : Dp → ℕ → List Reached → Reached → Bool
dominated dp k [] r = false
dominated dp k (a ∷ leaders) r = dominates dp k a r || dominated dp k leaders r

-- the leaders after the prefix: it is one of them if none of them dominates it and there are fewer than `MOST_LEADERS`
abbrev pub leaders_after : Dp → ℕ → List Reached → Reached → List Reached
leaders_after dp k leaders r = cond (dominated dp k leaders r || nat_le MOST_LEADERS (length leaders)) leaders (leaders ++ r ∷ [])

-- what the leaders so far, and those that are still to come, leave of the rest
abbrev pub undominated : Dp → ℕ → List Reached → List Reached → List Reached
undominated dp k leaders [] = []
undominated dp k leaders (r ∷ rs) = cond (dominated dp k leaders r) [] (r ∷ []) ++ undominated dp k (leaders_after dp k leaders r) rs
