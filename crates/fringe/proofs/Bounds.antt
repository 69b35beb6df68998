-- The greatest bound of a list.
use Rattle.std.proofs.Common.{◌≡◌, ℤ, List, [], ◌∷◌, map, cond, int_lt, Option, Some, None, refl}
use Rattle.dp_model.specs.Numbers.{greatest, greatest_from}
use Rattle.fringe.specs.Bounds.{raised}
use Rattle.fringe.specs.Tickets.{Ticketed}

-- the greatest of an option and the bounds of a list
abbrev pub raised_by : Option ℤ → List Ticketed → Option ℤ
raised_by most [] = most
raised_by most (o ∷ os) = raised_by (raised most o.subproblem.bound) os

raised_from : (z : ℤ) (os : List Ticketed) → raised_by (Some z) os ≡ Some (greatest_from z (map (λ o. o.subproblem.bound) os))
raised_from z [] = refl
raised_from z (o ∷ os) = raised_from (cond (int_lt z o.subproblem.bound) o.subproblem.bound z) os

-- raised from none it is the greatest
pub raised_greatest : (os : List Ticketed) → raised_by None os ≡ greatest (map (λ o. o.subproblem.bound) os)
raised_greatest [] = refl
raised_greatest (o ∷ os) = raised_from o.subproblem.bound os
