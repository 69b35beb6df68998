-- The moves of a board under a turn: one step of a run, or none.
use Rattle.std.specs.Prelude.{◌≡◌, ℕ, ℤ, ◌⊎◌, List, Option, Some, None, option_map}
use Rattle.dp_model.specs.Dp.{Dp}
use Rattle.board_laws.specs.Board.{BoardState, slot_at}
use Rattle.board_laws.specs.declared.cause.Cause.TheVariants.{Budget, Memory, Journal}
use Rattle.board_laws.specs.Runs.Step.{Take, Improve, Finish, GiveBack, Halt}
use Rattle.board_laws.specs.Runs.{Step, May, after, worker_of}
use Rattle.board.specs.View.{BoardView}

-- the decisions of what a worker has checked out
abbrev pub out_at : BoardState → ℕ → Option (List ℕ)
out_at b who = option_map (λ o. o.subproblem.decisions) (slot_at b who)

-- the worker of a step is this one, where it is one's own
abbrev pub IsOf : ℕ → Option ℕ → Type 0
IsOf who None = Unit {0}
IsOf who (Some worker) = worker ≡ who

-- a board by itself keeps no journal, whose faults would halt it
abbrev pub NeedsNoJournal : Step → Type 0
NeedsNoJournal (Take who) = Unit {0}
NeedsNoJournal (Improve x) = Unit {0}
NeedsNoJournal (Finish who threshold cs) = Unit {0}
NeedsNoJournal (GiveBack who) = Unit {0}
NeedsNoJournal (Halt Budget) = Unit {0}
NeedsNoJournal (Halt Memory) = Unit {0}
NeedsNoJournal (Halt Journal) = ⊥

-- one step of this worker, or of no one in particular, leads from the first board to the second
pub record IsStepOf (dp : Dp) (who : ℕ) (b later : BoardState) : Type 0 where
  pub step : Step
  pub of : IsOf who (worker_of step)
  pub alone : NeedsNoJournal step
  pub may : May dp b step
  pub is : later ≡ after dp b step

-- a move makes such a step, or none; the instance and the first board stay, and the room is free
pub record IsMove (meaning : List ℤ → Dp) (before now : BoardView) (who : ℕ) : Type 0 where
  pub numbers : now.numbers ≡ before.numbers
  pub first : now.first ≡ before.first
  pub step : (now.board ≡ before.board) ⊎ IsStepOf (meaning before.numbers) who before.board now.board
