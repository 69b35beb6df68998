-- What a history of moves leaves on the disk.
use Rattle.std.specs.Prelude.{◌≡◌, ◌≢◌, ◌⊎◌, ℕ, ℤ, ◌≤◌, List, [], ◌∷◌, ◌++◌, length, Option, Some, None, IsSome, IsTrue}
use Rattle.disk.specs.declared.disk.Disk.{Ghosts}
use Rattle.disk.specs.Disk.{Only}
use Rattle.dp_model.specs.Dp.{Dp}
use Rattle.turn.specs.History.{HasMoved}
use Rattle.board_laws.specs.declared.cause.Cause.TheVariants.{Journal}
use Rattle.board_laws.specs.Board.{BoardState}
use Rattle.board_laws.specs.Runs.{Step, after, IsRun}
use Rattle.journal_bytes.specs.Bodies.{RecordView}
use Rattle.journal_bytes.specs.Journal.{HeadView, HasRecords}
use Rattle.journal_replay.specs.Following.{record_of_step, snapshot_record}
use Rattle.kept_board.specs.Kept.{LeftFronts}
use Rattle.kept_board.specs.Moves.{IsMove}
use Rattle.kept_board.specs.View.{KeptView}

-- a record, where there is one, in front of others
abbrev pub record_beside : Option RecordView → List RecordView → List RecordView
record_beside None others = others
record_beside (Some r) others = r ∷ others

-- what a journal is told of a run: a step, or a snapshot between two of them
pub data Event : Type 0 where
  Made : (step : Step) → Event
  Snapped : Event

-- the steps among them
abbrev pub steps_of : List Event → List Step
steps_of [] = []
steps_of (Made step ∷ events) = step ∷ steps_of events
steps_of (Snapped ∷ events) = steps_of events

-- their records, in order: those of the steps, and snapshots of the board as it is then
abbrev pub records_of : Dp → BoardState → List Event → List RecordView
records_of dp b [] = []
records_of dp b (Made step ∷ events) = record_beside (record_of_step dp b step) (records_of dp (after dp b step) events)
records_of dp b (Snapped ∷ events) = snapshot_record b ∷ records_of dp b events

module _ {D : Type 0} (on : Ghosts D) where
  -- the file has these records, all on the disk, and the search is not halted for the journal
  pub record StartsFrom (head : HeadView) (old : List RecordView) (k : KeptView D) : Type 0 where
    pub has : IsSome k.tail
    pub going : k.board.board.cause ≢ Some Journal
    pub tells : IsTrue (on.tells k.disk)
    pub reads : HasRecords head old (on.seen k.disk)
    pub durable : Only (on.seen k.disk) (on.may_leave k.disk)

  -- The moves are a run, with snapshots between its steps. At each moment of it a crash has left the old records and a front of those
  -- of the run, with one more at most, at which the disk has failed; since an earlier moment it has left that, or what it might have
  -- left before; and at the end it leaves all of those of the run.
  pub record HasLeft (dp : Dp) (head : HeadView) (old : List RecordView) (first last : KeptView D) : Type 0 where
    pub events : List Event
    pub run : IsRun dp first.board.board (steps_of events) last.board.board
    pub more : List RecordView
    pub at_most_one : length more ≤ 1
    pub none_more : last.board.board.cause ≢ Some Journal → more ≡ []
    pub since : LeftFronts on first.disk last.disk head old (records_of dp first.board.board events ++ more)
    pub left : (c : List ℕ) → on.may_leave last.disk c →
        HasRecords head (old ++ records_of dp first.board.board events) c ⊎ HasRecords head (old ++ (records_of dp first.board.board events ++ more)) c

  -- what the disk may leave now is what it may have left since now, and at each moment since before
  pub record IsTimed : Type 0 where
    pub only_now : (disk : D) (c : List ℕ) → on.left_since disk (on.moment disk) c → on.may_leave disk c
    pub counts_now : (disk : D) (t : ℕ) (c : List ℕ) → t ≤ on.moment disk → on.may_leave disk c → on.left_since disk t c

  abbrev pub HistoriesLeave : (List ℤ → Dp) → Type 0
  HistoriesLeave meaning = (head : HeadView) (old : List RecordView) (first last : KeptView D) → StartsFrom head old first
      → HasMoved (IsMove on meaning) first last → HasLeft (meaning first.board.numbers) head old first last
