-- The open subproblems of a search, in order of ticket.
use Rattle.std.specs.Prelude.{◌≡◌, ℕ, ℤ, Bool, List, find, length, Option}
use Rattle.dp_model.specs.Lists.{Each}
use Rattle.dp_model.specs.Subproblem.{Subproblem}
use Rattle.dp_laws.specs.Children.{is_at, DifferInPlace}
use Rattle.dp_laws.specs.Pairs.{EachTwo}
use Rattle.fringe.specs.Tickets.{Ticketed, HasTickets}

-- a fringe as its callers see it: the open ones in order of ticket, the cells of a row, and for how many more there is room
pub record FringeView : Type 0 where
  pub open_ones : List Ticketed
  pub words : ℕ
  pub spare : ℕ

-- whether it is one of the depth and state
abbrev pub is_same : ℕ → List ℤ → Ticketed → Bool
is_same depth row o = is_at depth row o.subproblem

-- the open one of the depth and state
abbrev pub same_at : ℕ → List ℤ → List Ticketed → Option Ticketed
same_at depth row os = find (is_same depth row) os

-- the open one of the subproblem's depth and state
abbrev pub same_open : Subproblem → List Ticketed → Option Ticketed
same_open c os = same_at (length c.decisions) c.row os

-- two differ in depth or state
abbrev pub AreDifferent : Ticketed → Ticketed → Type 0
AreDifferent a b = DifferInPlace a.subproblem b.subproblem

-- a fringe: tickets rise, each two differ in depth or state, and each row has this many cells
pub record IsFringe (words : ℕ) (os : List Ticketed) : Type 0 where
  pub tickets : HasTickets os
  pub different : EachTwo AreDifferent os
  pub cells : Each (λ o. length o.subproblem.row ≡ words) os
