-- The board that is made anew of an incumbent and of subproblems with tickets.
use Rattle.std.specs.Prelude.{ℕ, ◌+◌, ◌<◌, ◌≤◌, ℤ, List, [], ◌∷◌, sum_by, Option}
use Rattle.dp_model.specs.Counts.{tree}
use Rattle.dp_model.specs.Cover.{IsHeld}
use Rattle.dp_model.specs.Dp.{Dp}
use Rattle.dp_model.specs.Lists.{Each}
use Rattle.dp_model.specs.Numbers.{IsFar}
use Rattle.dp_model.specs.Solution.{Solution}
use Rattle.dp_model.specs.Subproblem.{IsOwn}
use Rattle.dp_laws.specs.Children.{AreApart}
use Rattle.dp_laws.specs.Pairs.{EachTwo}
use Rattle.fringe.specs.Tickets.{Ticketed, IsEarlier}
use Rattle.board_laws.specs.declared.settings.Settings.{Settings}
use Rattle.board_laws.specs.Board.{BoardState, reach_of, value_held, prefixes}
use Rattle.board_laws.specs.GoodBoard.{IncumbentHolds, pot_of, share_of}
use Rattle.board_laws.specs.Starts.{CoversFrom, whole_search}
use Rattle.board_laws.specs.Steps.{back_among, fresh_board}

-- the open ones after the others are pushed in order by the fringe's rule, each unless its bound is at most the reach
abbrev pub pushed_above : Option ℤ → List Ticketed → List Ticketed → List Ticketed
pushed_above reach os [] = os
pushed_above reach os (o ∷ others) = pushed_above reach (back_among reach o os) others

-- the restored board: of what is listed, what is above the reach is open under its own ticket
abbrev pub restored_board : Settings → Option Solution → List Ticketed → ℕ → BoardState
restored_board settings best os next = fresh_board settings best (pushed_above (reach_of settings.within (value_held best)) [] os) next

-- what a board may be restored from: a feasible incumbent, and prefixes of their own whose bounds are of a bounded size and whose
-- tickets rise and were given out
pub record MayRestore (dp : Dp) (best : Option Solution) (os : List Ticketed) (next : ℕ) : Type 0 where
  pub incumbent : IncumbentHolds dp best
  pub own : Each (λ o. IsOwn dp o.subproblem) os
  pub far : Each (λ o. IsFar o.subproblem.bound) os
  pub ordered : EachTwo IsEarlier os
  pub given : Each (λ o. o.ticket < next) os

-- what makes a restored board a good one of a search from some start prefixes: the list covers from them with the reach, every bound is held, no
-- prefix begins with another, and the subproblems finished so far and the tickets are bounded by the number of prefixes that there are
pub record IsListSoundFrom (dp : Dp) (starts : List (List ℕ)) (within : ℤ) (finished : ℕ) (best : Option Solution) (os : List Ticketed) (next : ℕ) : Type 0 where
  pub covers : CoversFrom dp starts (reach_of within (value_held best)) (prefixes os)
  pub held : Each (λ o. IsHeld dp (reach_of within (value_held best)) o.subproblem.decisions o.subproblem.bound) os
  pub apart : EachTwo (λ a o. AreApart a.subproblem o.subproblem) os
  pub ends : finished + sum_by (pot_of dp) os ≤ tree dp
  pub shares : next + sum_by (share_of dp) os ≤ tree dp

-- the same of a whole search
abbrev pub IsListSound : Dp → ℤ → ℕ → Option Solution → List Ticketed → ℕ → Type 0
IsListSound dp within finished best os next = IsListSoundFrom dp whole_search within finished best os next
