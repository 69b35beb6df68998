-- The bound of a board.
use Rattle.std.specs.Prelude.{◌≡◌, ℤ, ◌⊎◌, List, [], ◌∷◌, Option, Some}
use Rattle.dp_model.specs.Lists.{Each, OneOf}
use Rattle.dp_model.specs.Numbers.{AtMost, OptionAtMost}
use Rattle.fringe.specs.Bounds.{raised}
use Rattle.fringe.specs.Tickets.{Ticketed}
use Rattle.board_laws.specs.Board.{BoardState, reach, frontier}

-- the greatest of an option and the bounds of a list
abbrev pub raised_by : Option ℤ → List Ticketed → Option ℤ
raised_by most [] = most
raised_by most (o ∷ os) = raised_by (raised most o.subproblem.bound) os

-- the greatest of the reach and the bounds of all that is out or open
abbrev pub board_bound : BoardState → Option ℤ
board_bound b = raised_by (reach b) (frontier b)

-- none of them is greater, and it is one of them; so it is none exactly where there is no incumbent and nothing is out or open
pub record IsGreatestBound (b : BoardState) (most : Option ℤ) : Type 0 where
  pub reached : OptionAtMost (reach b) most
  pub each : Each (λ o. AtMost o.subproblem.bound most) (frontier b)
  pub one : (most ≡ reach b) ⊎ OneOf (λ o. most ≡ Some o.subproblem.bound) (frontier b)
