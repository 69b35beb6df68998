-- A search from a kept board on.
use Rattle.std.specs.Prelude.{◌≡◌, ℕ, ℤ, Bool, List, Option, Some, None, is_some, Result, Ok, Err}
use Rattle.std.specs.declared.alloc.AllocError.{AllocError}
use Rattle.disk.specs.declared.disk.Disk.{Ghosts}
use Rattle.dp_model.specs.Dp.{Dp}
use Rattle.board_laws.specs.Board.{BoardState}
use Rattle.board_laws.specs.GoodBoard.{IsGood}
use Rattle.board_laws.specs.declared.settings.Settings.{Settings}
use Rattle.kept_board.specs.Kept.{IsKept}
use Rattle.kept_board.specs.View.{KeptView}
use Rattle.journal_bytes.specs.Bodies.{RecordView}
use Rattle.journal_bytes.specs.Journal.{HeadView}
use Rattle.journal_bytes.specs.declared.head.Part.{Part}
use Rattle.journal_bytes.specs.declared.tail.Tail.{Tail}
use Rattle.journal_replay.specs.Accepting.{AreAccepted}
use Rattle.journal_replay.specs.Replay.{replay_of, restored_from}
use Rattle.journal_replay.specs.Sound.{AreSound}
use Rattle.board.specs.View.{BoardView, tag_of}
use Rattle.answers.specs.Answers.{IsReport}
use Rattle.part_reports.specs.Reports.{ReportView}
use Rattle.answers.specs.Journals.{HasDiskFailed, HasKept, LeavesResumed}
use Rattle.answers.specs.Kept.{searched_part}
use Rattle.answers.specs.Offers.{HasTaken, told_value}
use Rattle.answers.specs.Outcomes.{HasSearched}
use Rattle.answers.specs.PartSearches.{part_outcome}
use Rattle.answers.specs.declared.concluding.Conclusion.{Conclusion}
use Rattle.solver_words.specs.declared.job.JobSettings.{JobSettings}
use Rattle.solver_report.specs.declared.answer.Answer.{Answer}
use Rattle.solver_report.specs.declared.answer.Answer.TheVariants as answers
use Rattle.solver_report.specs.declared.answer.Counts.{Counts}
use Rattle.solver_report.specs.declared.answer.Outcome.{Outcome}
use Rattle.search_workers.specs.Later.{IsLater, NoRoundFollows, IsComplete}

module _ {D : Type 0} (on : Ghosts D) where
  -- the disk as a board is kept on it that was made for the disk as it was then, with a journal or with none
  pub record IsKeptOn (dp : Dp) (has : Bool) (made now : D) (b : BoardState) : Type 0 where
    pub tail : Option Tail
    pub same : is_some tail ≡ has
    pub kept : IsKept on dp b made now tail

  -- some board with these settings is kept so
  pub record KeepsSome (dp : Dp) (has : Bool) (made now : D) (settings : Settings) : Type 0 where
    pub board : BoardState
    pub same : board.settings ≡ settings
    pub keeps : IsKeptOn dp has made now board

  -- a board some rounds later, from which no round can follow, and which is kept
  pub record HasExplored (dp : Dp) (first : KeptView D) (now : D) (b : BoardView) : Type 0 where
    pub tag : tag_of b ≡ tag_of first.board
    pub later : IsLater dp first.board.board b.board
    pub ended : NoRoundFollows b.board
    pub complete : IsGood dp first.board.first → IsComplete dp b.board
    pub keeps : IsKeptOn dp (is_some first.tail) first.made now b.board

  -- a search has gone on from records, which are accepted, within the distance of their head, after it has taken what is offered, and this is told of it
  abbrev pub IsToldOn : Dp → (List ℕ → Option ℤ) → HeadView → List RecordView → List ReportView → JobSettings → D → Outcome → Option Counts → Type 0
  IsToldOn dp own head records offers search now outcome counts = AreAccepted dp records × HasTaken (HasDiskFailed on now) dp offers (told_value outcome)
      × HasSearched dp own (λ settings. restored_from settings (replay_of dp records)) (AreSound dp head.within records) search
      (HasKept on dp head records (LeavesResumed on head records) now) outcome counts

-- the answer to how a search ended: its report, or that memory ran out
abbrev pub IsAnswerTo : JobSettings → Result Conclusion AllocError → Answer → Type 0
IsAnswerTo search (Ok told) answer = IsReport search told.outcome told.counts answer
IsAnswerTo search (Err e) answer = answer ≡ answers.OutOfMemory

-- what was told of a search, or that memory ran out
abbrev pub or_memory : Result Conclusion AllocError → Result Conclusion Answer
or_memory (Ok told) = Ok told
or_memory (Err e) = Err answers.OutOfMemory

-- the answer without a cover to what was told of a search within a distance: its report, or that of the part
abbrev pub told_in : Option Part → ℤ → Outcome → Option Counts → Answer
told_in None within outcome counts = answers.Searched outcome counts
told_in (Some part) within outcome counts = answers.PartSearched (searched_part part) (part_outcome within outcome) counts

-- or the answer where nothing was told
abbrev pub report_in : Option Part → ℤ → Result Conclusion Answer → Answer
report_in part within (Ok told) = told_in part within told.outcome told.counts
report_in part within (Err answer) = answer
