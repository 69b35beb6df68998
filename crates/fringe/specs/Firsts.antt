-- Which open subproblem is taken first.
use Rattle.std.specs.Prelude.{◌≡◌, Bool, false, cond, ◌&&◌, ◌||◌, List, [], ◌∷◌, nat_lt, int_lt, int_le, Option, Some, None}
use Rattle.dp_model.specs.Lists.{Each, OneOf}
use Rattle.fringe.specs.Tickets.{Ticketed}

-- a is taken rather than b: the greater bound, then the greater value, then the lesser ticket
abbrev pub is_taken_before : Ticketed → Ticketed → Bool
is_taken_before a b =
    int_lt b.subproblem.bound a.subproblem.bound || (int_le b.subproblem.bound a.subproblem.bound &&
    (int_lt b.subproblem.value a.subproblem.value || (int_le b.subproblem.value a.subproblem.value &&
    nat_lt a.ticket b.ticket)))

-- the one that is taken first
abbrev pub first_from : Ticketed → List Ticketed → Ticketed
first_from first [] = first
first_from first (o ∷ os) = first_from (cond (is_taken_before o first) o first) os

-- the one to take, where there is one
abbrev pub first_taken : List Ticketed → Option Ticketed
first_taken [] = None
first_taken (o ∷ os) = Some (first_from o os)

-- it is one of the list, and none of the list is taken before it
pub record IsFirstTaken (os : List Ticketed) (o : Ticketed) : Type 0 where
  pub one : OneOf (λ a. a ≡ o) os
  pub first : Each (λ a. is_taken_before a o ≡ false) os
