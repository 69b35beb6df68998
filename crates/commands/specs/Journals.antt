-- The disk of a search that keeps a journal, between opening it and the search, and after the search.
use Rattle.std.specs.Prelude.{◌≡◌, ◌⊎◌, ℕ, ℤ, ◌≤◌, List, [], Option, IsOkAnd, IfSome, IsSome, IsTrue}
use Rattle.disk.specs.declared.disk.Disk.{Ghosts}
use Rattle.dp_model.specs.Dp.{Dp}
use Rattle.journal_bytes.specs.declared.tail.Tail.{Tail}
use Rattle.journal_bytes.specs.Bodies.{RecordView}
use Rattle.journal_bytes.specs.Journal.{HeadView, HasRecords}
use Rattle.journal_file.specs.Beginning.{IsBegun, LeavesSince, MayBegin}
use Rattle.journal_file.specs.Settled.{IsOpen}
use Rattle.problem_names.specs.declared.ModelName.{ModelName}
use Rattle.problems.specs.Theories.{theory_of}
use Rattle.answers.specs.Answers.{Ends, HasSearchedFromStart}
use Rattle.answers.specs.Journals.{Attaches, HasGoneOn, HasKept, HasLeftBegun, IsUnwritten, LeavesBegun, MightBegin, SinceAttached}
use Rattle.solver_words.specs.declared.job.JobSettings.{JobSettings}
use Rattle.answers.specs.Kept.{head_of}
use Rattle.solver_report.specs.declared.answer.Answer.{Answer}
use Rattle.solver_report.specs.declared.answer.Answer.TheVariants as answers

module _ {D : Type 0} (on : Ghosts D) where
  -- a journal with this head was begun on the disk, and nothing is added to it
  pub record HasBegunOn (head : HeadView) (disk : D) (tail : Tail) : Type 0 where
    pub is_attached : IsTrue (on.attached disk)
    pub is_open : IsTrue (on.tells disk) → IsOpen (on.seen disk) (on.may_leave disk) tail × HasRecords head [] (on.seen disk)
    pub synced : IsSome (on.start disk)
    pub begins : MightBegin on disk
    pub counted : IfSome (on.start disk) (λ s. s.faults ≤ on.faults disk)
    pub since : SinceAttached on disk (λ s. MayBegin s.content → LeavesSince on.moment on.left_since s disk (IsBegun head))

  -- a journal with this head and these records was opened on the disk, and nothing was written
  pub record IsOpened (head : HeadView) (records : List RecordView) (disk : D) (tail : Tail) : Type 0 where
    pub is_attached : IsTrue (on.attached disk)
    pub is_open : IsTrue (on.tells disk) → IsOpen (on.seen disk) (on.may_leave disk) tail × HasRecords head records (on.seen disk)
    pub synced : IsSome (on.start disk)
    pub unwritten : IsUnwritten on disk
    pub counted : IfSome (on.start disk) (λ s. s.faults ≤ on.faults disk)
    pub found : SinceAttached on disk (λ s. HasRecords head records s.content)

  -- how a search ends that has begun a journal: its width is not refused any more
  abbrev pub EndsKept : Dp → (List ℕ → Option ℤ) → HeadView → JobSettings → D → Answer → Type 0
  EndsKept dp own head search now answers.Width = ⊥
  EndsKept dp own head search now answer =
      Ends dp search (λ outcome counts. IsSome (on.start now) × MightBegin on now × HasSearchedFromStart dp own search (HasKept on dp head [] (LeavesBegun on head) now) outcome counts) answer

  -- the named file was attached, and a crash has left what a journal with this head leaves that has begun
  abbrev pub LeavesNamed : List ℕ → Dp → HeadView → D → D → Type 0
  LeavesNamed path dp head before now = Attaches on path before now × HasLeftBegun on dp head now

  -- the disk is as it was, or the text spells an instance, of which that is so
  abbrev pub LeavesOfText : ModelName → ℤ → List ℕ → List ℕ → D → D → Type 0
  LeavesOfText name within path text before now = (now ≡ before)
      ⊎ IsOkAnd ((theory_of name).spelled text) (λ numbers. LeavesNamed path ((theory_of name).program numbers) (head_of (theory_of name) name within numbers) before now)

  -- what a search that goes on from a journal leaves after its records; what was attached, the first sync and whether its content is told stay
  pub record LeavesOpened (Follow : List RecordView → Type 0) (head : HeadView) (old : List RecordView) (before now : D) : Type 0 where
    pub written : List RecordView
    pub gone : SinceAttached on now (λ s. HasGoneOn on (Follow written) head old written now s)
    pub start : on.start now ≡ on.start before
    pub still_tells : on.tells now ≡ on.tells before
    pub same_names : on.names now ≡ on.names before
    pub same_found : on.found now ≡ on.found before

-- a journal is left as it was where it, the width or an offer is refused
abbrev pub TouchesNothing : {D : Type 0} → D → D → Answer → Type 0
TouchesNothing before now (answers.Journal e) = now ≡ before
TouchesNothing before now answers.Width = now ≡ before
TouchesNothing before now (answers.ReportsRefused e) = now ≡ before
TouchesNothing before now _ = Unit {0}
