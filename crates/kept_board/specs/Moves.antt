-- The moves of a kept board under a turn: one step with its record, a snapshot, a record that the disk refuses, or none.
use Rattle.std.specs.Prelude.{◌≡◌, ◌≢◌, ◌⊎◌, ℕ, ℤ, List, Option, Some, None, is_some, IsSome, IsTrue}
use Rattle.disk.specs.declared.disk.Disk.{Ghosts}
use Rattle.disk.specs.Counts.{Rose}
use Rattle.disk.specs.Disk.{Only}
use Rattle.dp_model.specs.Dp.{Dp}
use Rattle.board_laws.specs.Board.{BoardState}
use Rattle.board_laws.specs.declared.cause.Cause.{Cause}
use Rattle.board_laws.specs.declared.cause.Cause.TheVariants.{Journal}
use Rattle.board_laws.specs.Runs.{Step, May, worker_of}
use Rattle.board_laws.specs.Steps.{halted}
use Rattle.journal_bytes.specs.declared.tail.Tail.{Tail}
use Rattle.journal_bytes.specs.Bodies.{RecordView}
use Rattle.journal_replay.specs.Following.{record_of_step, snapshot_record}
use Rattle.board.specs.Moves.{IsOf, IsStepOf}
use Rattle.kept_board.specs.Adding.{LeavesAtMost, Acknowledges}
use Rattle.kept_board.specs.Due.{is_due}
use Rattle.kept_board.specs.View.{KeptView}

-- the record of a step that this worker, or no one in particular, may make
pub record IsRecordOfStep (dp : Dp) (who : ℕ) (b : BoardState) (r : RecordView) : Type 0 where
  pub step : Step
  pub of : IsOf who (worker_of step)
  pub may : May dp b step
  pub is : record_of_step dp b step ≡ Some r

-- a record that may be the next one of the board's journal: that of a step, or a snapshot of the board where one is due
abbrev pub MayBeNext : {D : Type 0} → Dp → ℕ → KeptView D → RecordView → Type 0
MayBeNext dp who k r = IsRecordOfStep dp who k.board.board r ⊎ (IsTrue (is_due k) × (r ≡ snapshot_record k.board.board))

module _ {D : Type 0} (on : Ghosts D) where
  -- the record is added to a journal that has not failed, and is on the disk
  pub record IsAdded (cause : Option Cause) (before disk : D) (r : RecordView) : Type 0 where
    pub going : cause ≢ Some Journal
    pub still_tells : on.tells disk ≡ on.tells before
    pub acknowledged : Acknowledges on before disk r
    pub durable : IsTrue (on.tells before) → Only (on.seen disk) (on.may_leave disk)
    pub any_moment : LeavesAtMost on before disk r

  -- the record of a step is added, where it has one and there is a journal; else the disk stays
  abbrev pub IsRecorded : Option Tail → Option RecordView → Option Cause → D → D → Type 0
  IsRecorded None r cause before disk = disk ≡ before
  IsRecorded (Some tail) None cause before disk = disk ≡ before
  IsRecorded (Some tail) (Some r) cause before disk = IsAdded cause before disk r

  -- nothing happens to the board and the disk
  pub record Stays (before now : KeptView D) : Type 0 where
    pub board : now.board.board ≡ before.board.board
    pub disk : now.disk ≡ before.disk

  -- a step of this worker, or of no one in particular, with its record
  pub record Steps (dp : Dp) (who : ℕ) (before now : KeptView D) : Type 0 where
    pub made : IsStepOf dp who before.board.board now.board.board
    pub recorded : IsRecorded before.tail (record_of_step dp before.board.board made.step) before.board.board.cause before.disk now.disk

  -- a snapshot of the board that is due is added to its journal, and the board stays
  pub record Snaps (before now : KeptView D) : Type 0 where
    pub due : IsTrue (is_due before)
    pub board : now.board.board ≡ before.board.board
    pub added : IsAdded before.board.board.cause before.disk now.disk (snapshot_record before.board.board)

  -- the disk fails at a record: the step is not made, or no snapshot is added, and the board is halted for the journal
  pub record Fails (dp : Dp) (who : ℕ) (before now : KeptView D) : Type 0 where
    pub has : IsSome before.tail
    pub going : before.board.board.cause ≢ Some Journal
    pub last : RecordView
    pub next : MayBeNext dp who before last
    pub rose : Rose (on.faults before.disk) (on.faults now.disk)
    pub still_tells : on.tells now.disk ≡ on.tells before.disk
    pub any_moment : LeavesAtMost on before.disk now.disk last
    pub halts : now.board.board ≡ halted before.board.board Journal

  pub record IsMove (meaning : List ℤ → Dp) (before now : KeptView D) (who : ℕ) : Type 0 where
    pub numbers : now.board.numbers ≡ before.board.numbers
    pub first : now.board.first ≡ before.board.first
    pub made : now.made ≡ before.made
    pub every : now.every ≡ before.every
    pub has : is_some now.tail ≡ is_some before.tail
    pub step : Stays before now ⊎ (Snaps before now ⊎ (Steps (meaning before.board.numbers) who before now ⊎ Fails (meaning before.board.numbers) who before now))
