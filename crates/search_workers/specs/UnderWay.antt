-- A round that is under way.
use Rattle.std.specs.Prelude.{◌≡◌, ◌+◌, slice_set, List, Some, None}
use Rattle.dp_model.specs.Dp.{Dp}
use Rattle.dp_model.specs.Subproblem.{Subproblem, IsOwn}
use Rattle.fringe.specs.Tickets.{Ticketed}
use Rattle.board_laws.specs.Board.{BoardState}
use Rattle.board_laws.specs.Runs.{Step, IsRun}
use Rattle.board_laws.specs.Steps.{halted, given_back}
use Rattle.board_laws.specs.declared.cause.Cause.TheVariants.{Memory}
use Rattle.kept_board.specs.declared.error.KeptError.{KeptError}
use Rattle.kept_board.specs.declared.error.KeptError.TheVariants.{Journal, OutOfMemory}

-- steps that began without a cause led to a board on which worker 0 has the subproblem out, a prefix with its own state and value, which
-- counts as taken, and no cause is held
pub record IsRoundUnderWay (dp : Dp) (b now : BoardState) (c : Subproblem) : Type 0 where
  pub steps : List Step
  pub run : IsRun dp b steps now
  pub out : Ticketed
  pub same : out.subproblem ≡ c
  pub own : IsOwn dp c
  pub slots : now.slots ≡ slice_set b.slots 0 (Some out)
  pub taken : now.taken ≡ b.taken + 1
  pub began_without : b.cause ≡ None
  pub without_cause : now.cause ≡ None

-- steps led to a board on which worker 0 has finished
pub record HasFinished (dp : Dp) (b later : BoardState) : Type 0 where
  pub steps : List Step
  pub run : IsRun dp b steps later
  pub slots : later.slots ≡ slice_set b.slots 0 None
  pub taken : later.taken ≡ b.taken
  pub cause : later.cause ≡ b.cause

-- worker 0 gives back after a step was refused: for want of memory once the search is halted for that, and where the disk failed as the
-- search is halted
abbrev pub handed_back : KeptError → BoardState → BoardState
handed_back OutOfMemory b = given_back (halted b Memory) 0
handed_back Journal b = given_back b 0
