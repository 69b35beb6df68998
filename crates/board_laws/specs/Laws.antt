-- What the steps and the runs keep, and what a good board says.
use Rattle.std.specs.Prelude.{◌≡◌, ◌≢◌, ℕ, pos, ℤ, Bool, List, true, slice_get, Option, Some, None, IsTrue, IsSome}
use Rattle.dp_model.specs.Solution.{Solution}
use Rattle.dp_model.specs.Best.{IsBest}
use Rattle.dp_model.specs.Cover.{Covers}
use Rattle.dp_model.specs.Dp.{Dp}
use Rattle.dp_model.specs.Numbers.{AtMost, is_above}
use Rattle.dp_model.specs.Prefixes.{IsSolution, value_of}
use Rattle.dp_model.specs.Subproblem.{Subproblem}
use Rattle.fringe.specs.Tickets.{Ticketed}
use Rattle.board_laws.specs.declared.cause.Cause.{Cause}
use Rattle.board_laws.specs.declared.fate.Fate.{Fate}
use Rattle.board_laws.specs.declared.settings.Settings.{Settings}
use Rattle.board_laws.specs.Board.{AreSettings, BoardState, incumbent_value, prefixes, reach, slot_at, is_explored}
use Rattle.board_laws.specs.Bound.{board_bound}
use Rattle.board_laws.specs.Finishing.{MayFinish}
use Rattle.board_laws.specs.GoodBoard.{IncumbentHolds, IsBoard, IsGood, IsGoodFrom}
use Rattle.board_laws.specs.Restoring.{MayRestore, IsListSoundFrom, restored_board}
use Rattle.board_laws.specs.Starts.{BeginsWithOne, CoversFrom, chosen, whole_search}
use Rattle.board_laws.specs.Runs.{Step, May, after, worker_of, IsRun, IsLaterInRun}
use Rattle.board_laws.specs.Steps.{improved, finished_by, given_back, halted, first_board}
use Rattle.board_laws.specs.Taking.{after_take}

-- the second board keeps what the first one keeps, and is good from the start prefixes from which the first one is
pub record KeepsBoard (dp : Dp) (b later : BoardState) : Type 0 where
  pub board : IsBoard dp b → IsBoard dp later
  pub good : {starts : List (List ℕ)} → IsBoard dp b → IsGoodFrom dp starts b → IsGoodFrom dp starts later

-- Take keeps a board, and a good one
abbrev pub TakeKeeps : Dp → Type 0
TakeKeeps dp = (b : BoardState) (who : ℕ) → slice_get b.slots who ≡ Some None → KeepsBoard dp b (after_take b who)

-- Improve keeps a board, and a good one
abbrev pub ImproveKeeps : Dp → Type 0
ImproveKeeps dp = (b : BoardState) (best : Solution) → IncumbentHolds dp (Some best) → is_above (incumbent_value b) best.value ≡ true → KeepsBoard dp b (improved b best)

-- Finish keeps a board, and a good one
abbrev pub FinishKeeps : Dp → Type 0
FinishKeeps dp = (b : BoardState) (who : ℕ) (threshold : Option ℤ) (cs : List Subproblem) (fs : List Fate) → MayFinish dp b who threshold cs fs → KeepsBoard dp b (finished_by dp b who cs)

-- (what every board keeps, GiveBack keeps whether a cause is held or not; a good one asks that one is)
pub record GiveBackKeeps (dp : Dp) : Type 0 where
  pub board : (b : BoardState) (who : ℕ) → IsBoard dp b → IsBoard dp (given_back b who)
  pub good : (b : BoardState) (who : ℕ) → {starts : List (List ℕ)} → IsSome b.cause → IsBoard dp b → IsGoodFrom dp starts b → IsGoodFrom dp starts (given_back b who)

-- Halt keeps a board, and a good one
abbrev pub HaltKeeps : Dp → Type 0
HaltKeeps dp = (b : BoardState) (cause : Cause) → KeepsBoard dp b (halted b cause)

-- the first board is a good one
pub record IsFirstGood (dp : Dp) (settings : Settings) : Type 0 where
  pub board : IsBoard dp (first_board dp settings)
  pub good : IsGood dp (first_board dp settings)

-- the first board of settings is a good one
abbrev pub FirstBoardsAreGood : Dp → Type 0
FirstBoardsAreGood dp = (settings : Settings) → AreSettings settings → IsFirstGood dp settings

-- a restored board keeps what every board keeps, and is good where the list is sound
pub record RestoredKeeps (dp : Dp) (settings : Settings) (best : Option Solution) (os : List Ticketed) (next : ℕ) : Type 0 where
  pub board : IsBoard dp (restored_board settings best os next)
  pub good : {starts : List (List ℕ)} → (finished : ℕ) → IsListSoundFrom dp starts settings.within finished best os next → IsGoodFrom dp starts (restored_board settings best os next)

-- a board that is restored is one, and a good one where what it is restored from is sound
abbrev pub RestoredBoardsKeep : Dp → Type 0
RestoredBoardsKeep dp = (settings : Settings) (best : Option Solution) (os : List Ticketed) (next : ℕ) → AreSettings settings → MayRestore dp best os next → RestoredKeeps dp settings best os next

-- what one step keeps: the board, and each slot but the worker's own
pub record StepKeeps (dp : Dp) (b : BoardState) (step : Step) : Type 0 where
  pub keeps : KeepsBoard dp b (after dp b step)
  pub follows : IsLaterInRun b (after dp b step)
  pub others : (who : ℕ) → worker_of step ≢ Some who → slot_at (after dp b step) who ≡ slot_at b who

-- each allowed step keeps a board, and a good one
abbrev pub StepsKeep : Dp → Type 0
StepsKeep dp = (b : BoardState) (step : Step) → May dp b step → StepKeeps dp b step

-- what a run keeps
pub record RunKeeps (dp : Dp) (b last : BoardState) : Type 0 where
  pub keeps : KeepsBoard dp b last
  pub follows : IsLaterInRun b last

-- each run keeps a board, and a good one
abbrev pub RunsKeep : Dp → Type 0
RunsKeep dp = (b : BoardState) (steps : List Step) (last : BoardState) → IsRun dp b steps last → RunKeeps dp b last

-- on a good board no feasible solution exceeds the bound
abbrev pub NoneExceedsTheBound : Dp → Type 0
NoneExceedsTheBound dp = (b : BoardState) → IsGood dp b → (x : List ℕ) → IsSolution dp x → AtMost (value_of dp x) (board_bound b)

-- where nothing is open or out, each feasible solution is at most the reach
abbrev pub ExploredIsWithinReach : Dp → Type 0
ExploredIsWithinReach dp = (b : BoardState) → IsGood dp b → IsTrue (is_explored b) → (x : List ℕ) → IsSolution dp x → AtMost (value_of dp x) (reach b)

-- so without a distance the incumbent is best
abbrev pub ExploredIsBest : Dp → Type 0
ExploredIsBest dp = (b : BoardState) → IsBoard dp b → IsGood dp b → b.settings.within ≡ pos 0 → IsTrue (is_explored b) → IsBest dp (incumbent_value b)

-- where nothing is open or out, each feasible solution that begins with a start prefix is at most the reach
abbrev pub ExploredSettles : Dp → Type 0
ExploredSettles dp = (starts : List (List ℕ)) (b : BoardState) → IsGoodFrom dp starts b → IsTrue (is_explored b) → (x : List ℕ) → IsSolution dp x → BeginsWithOne starts x → AtMost (value_of dp x) (reach b)

-- a good board of a whole search is one from any start prefixes, and prefixes cover from themselves
pub record StartsCover (dp : Dp) : Type 0 where
  pub each : (starts : List (List ℕ)) (b : BoardState) → IsGood dp b → IsGoodFrom dp starts b
  pub own : (inc : Option ℤ) (P : List (List ℕ)) → CoversFrom dp P inc P
  pub whole : (inc : Option ℤ) (P : List (List ℕ)) → CoversFrom dp whole_search inc P → Covers dp inc P

-- a search may go on from a part of a list from which one may, and the part of a sound list is sound from its own prefixes
pub record PartKeeps (dp : Dp) (best : Option Solution) (os part : List Ticketed) (next : ℕ) : Type 0 where
  pub restores : MayRestore dp best os next → MayRestore dp best part next
  pub sound : (starts : List (List ℕ)) (within : ℤ) (finished : ℕ) → IsListSoundFrom dp starts within finished best os next → IsListSoundFrom dp (prefixes part) within finished best part next

-- whichever of the list the part has
abbrev pub PartsKeep : Dp → Type 0
PartsKeep dp = (best : Option Solution) (os : List Ticketed) (next : ℕ) (p : ℕ → Bool) → PartKeeps dp best os (chosen p 0 os) next
