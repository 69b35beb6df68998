-- When an answer for the journal in a file is right.
use Rattle.std.specs.Prelude.{◌≡◌, ℕ, List, MatchResult, IsSome}
use Rattle.disk.specs.declared.disk.Disk.{Ghosts}
use Rattle.disk.specs.Counts.{Rose}
use Rattle.journal_bytes.specs.Frames.{frames_of}
use Rattle.journal_bytes.specs.Journal.{JournalView, after_head, journal_of}
use Rattle.journal_file.specs.Refusing.{error_of}
use Rattle.journal_file.specs.declared.error.JournalError.TheVariants as errors
use Rattle.solver_report.specs.declared.answer.Answer.{Answer}
use Rattle.solver_report.specs.declared.answer.Answer.TheVariants as answers
use Rattle.answers.specs.Journals.{Attaches, IsUnwritten, SinceAttached}

-- what may be answered for a journal, the first record of which stands at this offset
abbrev pub ForJournal : Type 1
ForJournal = JournalView → ℕ → Answer → Type 0

module _ {D : Type 0} (on : Ghosts D) where
  -- a file was read after the first sync, which is what that found where the disk tells it; the answer is for the journal that it is, or the first cause for
  -- which it is none
  pub record IsForFile (For : ForJournal) (now : D) (answer : Answer) : Type 0 where
    pub began : IsSome (on.start now)
    pub file : List ℕ
    pub is_file : SinceAttached on now (λ s. s.content ≡ file)
    pub right : MatchResult (journal_of file) (λ j. For j (after_head (frames_of file)) answer) (λ refusal. answer ≡ answers.Journal (error_of refusal))

  -- the disk has failed, memory ran out, or the answer is for the file
  abbrev pub IsForDisk : ForJournal → D → D → Answer → Type 0
  IsForDisk For before now (answers.Journal errors.Disk) = Rose (on.faults before) (on.faults now)
  IsForDisk For before now (answers.Journal errors.OutOfMemory) = Unit {0}
  IsForDisk For before now answers.OutOfMemory = Unit {0}
  IsForDisk For before now answer = IsForFile For now answer

  -- the named file is attached and read, and nothing is written
  pub record ReadsNamed (For : ForJournal) (path : List ℕ) (before now : D) (answer : Answer) : Type 0 where
    pub attaches : Attaches on path before now
    pub unwritten : IsUnwritten on now
    pub right : IsForDisk For before now answer
