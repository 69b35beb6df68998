-- What is asked of a worker's seat, and what it has out.
use Rattle.std.specs.Prelude.{◌≡◌, ℕ, ◌<◌, List, Option, Some, None}
use Rattle.turn.specs.declared.turn.Seat.{Seat}
use Rattle.turn.specs.declared.turn.Turn.{Turn}
use Rattle.turn.specs.Seats.{first_of, out_of, IsSeatOf}
use Rattle.dp_model.specs.Dp.{Dp}
use Rattle.dp_model.specs.Subproblem.{Subproblem, IsOwn}
use Rattle.board_laws.specs.declared.taken.Taken.{Taken}
use Rattle.board_laws.specs.declared.taken.Taken.TheVariants.{Sub, WaitForOthers, Finished, Halted}
use Rattle.kept_board.specs.View.{KeptView}
use Rattle.kept_board.specs.declared.tag.KeptTag.{KeptTag}

-- the seat is one of the turn's, and its number is below the workers of the settings
pub record IsWorker {D : Type 0} (turn : Turn (KeptView D) (KeptTag D)) (seat : Seat (KeptView D)) : Type 0 where
  pub own : IsSeatOf turn seat
  pub within : seat.number < (first_of turn).board.board.settings.workers

-- such a seat with nothing out
pub record IsReadySeat {D : Type 0} (turn : Turn (KeptView D) (KeptTag D)) (seat : Seat (KeptView D)) : Type 0 where
  pub worker : IsWorker turn seat
  pub nothing_out : out_of seat ≡ None

-- this subproblem is out, which is a prefix with its own state and value
pub record IsOut (dp : Dp) (out : Option (List ℕ)) (c : Subproblem) : Type 0 where
  pub is : out ≡ Some c.decisions
  pub own : IsOwn dp c

-- on `Sub` the subproblem is out, and else none is
abbrev pub TakenOut : Dp → Taken → Option (List ℕ) → Subproblem → Type 0
TakenOut dp Sub out c = IsOut dp out c
TakenOut dp WaitForOthers out c = out ≡ None
TakenOut dp Finished out c = out ≡ None
TakenOut dp (Halted cause) out c = out ≡ None

-- P, where the answer is that the search is at its end
abbrev pub IfOver : Taken → Type 0 → Type 0
IfOver Sub P = Unit {0}
IfOver WaitForOthers P = Unit {0}
IfOver Finished P = P
IfOver (Halted cause) P = P
