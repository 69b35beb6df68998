-- How a run of the program ends.
use Rattle.std.specs.Prelude.{◌≡◌, ℕ, ℤ, ◌+◌, ◌^◌, ◌≤◌, ◌==◌, if◌then◌else◌, true, false, List, [], length, Option, Some, None, IfSome, IsOkAnd, Ok, Err, ◌⊎◌, IsOk}
use Rattle.disk.specs.declared.disk.Disk.{Ghosts}
use Rattle.part_text.specs.Reports.{reports_of}
use Rattle.problem_names.specs.declared.ModelName.{ModelName}
use Rattle.std.specs.Io.KnownBytes.{append_known}
use Rattle.streams.specs.Counts.{Rose}
use Rattle.streams.specs.Told.{IsAllOf, Ends, Skips, TakesSome}
use Rattle.streams.specs.declared.reading.ReadError.{ReadError}
use Rattle.streams.specs.declared.reading.ReadError.TheVariants.{Fault, TooLong, OutOfMemory}
use Rattle.problems.specs.Theories.{theory_of}
use Rattle.solver_words.specs.Words.{JobView, solve, resume, split, check, join, join_reports, digest, generate, meaning, refusal_of}
use Rattle.solver_report.specs.declared.answer.Answer.{Answer}
use Rattle.solver_report.specs.declared.answer.Answer.TheVariants as answers
use Rattle.solver_report.specs.Report.{report, status_of}
use Rattle.answers.specs.Answers.{DigestsText, Draws, SolvesText}
use Rattle.answers.specs.Checks.{IsChecked}
use Rattle.answers.specs.Covers.{cover_limit}
use Rattle.answers.specs.Joins.{IsJoined}
use Rattle.answers.specs.Journals.{Attaches, HasLeftBegun, IsUnwritten}
use Rattle.answers.specs.Kept.{LeavesAfterResume, MayFollow, RepliesKept, Resumes, ResumesOffered, head_of}
use Rattle.answers.specs.ReportsJoined.{JoinsReports}
use Rattle.answers.specs.Splits.{Splits}

-- the source as the run found it and left it: the bytes that are left, where they are told, and how many calls have failed
pub record Readings : Type 0 where
  pub before : Option (List ℕ)
  pub now : Option (List ℕ)
  pub faults_before : ℕ
  pub faults_now : ℕ

-- the sink likewise: the bytes that were taken, where they are told, how many calls have failed, and how many took nothing
pub record Writings : Type 0 where
  pub before : Option (List ℕ)
  pub now : Option (List ℕ)
  pub faults_before : ℕ
  pub faults_now : ℕ
  pub idle_before : ℕ
  pub idle_now : ℕ

-- the source at two moments, by what it tells of itself
abbrev pub readings : {S : Type 0} → (S → Option (List ℕ)) → (S → ℕ) → S → S → Readings
readings left faults old new = record { before = left old; now = left new; faults_before = faults old; faults_now = faults new }

-- the sink likewise
abbrev pub writings : {K : Type 0} → (K → Option (List ℕ)) → (K → ℕ) → (K → ℕ) → K → K → Writings
writings taken faults idle old new = record { before = taken old; now = taken new; faults_before = faults old; faults_now = faults new; idle_before = idle old; idle_now = idle new }

-- how many bytes the text of an instance has at most
abbrev pub text_limit : ℕ
text_limit = 2 ^ 26

-- these bytes are all that was left, nothing is left now, no call failed, and they are within the limit
pub record WasRead (limit : ℕ) (r : Readings) (bytes : List ℕ) : Type 0 where
  pub all : IsAllOf r.before bytes
  pub ended : Ends r.before r.now
  pub sound : r.faults_now ≡ r.faults_before
  pub short : length bytes ≤ limit

-- nothing was read
pub record IsUntouched (r : Readings) : Type 0 where
  pub left : r.now ≡ r.before
  pub sound : r.faults_now ≡ r.faults_before

-- one byte more than the limit was read, and no call failed
pub record WasTooLong (limit : ℕ) (r : Readings) : Type 0 where
  pub gone : Skips r.before r.now (limit + 1)
  pub sound : r.faults_now ≡ r.faults_before

-- a call failed, and what was read before it is gone
pub record HasFailed (limit : ℕ) (r : Readings) : Type 0 where
  pub rose : Rose r.faults_before r.faults_now
  pub count : ℕ
  pub short : count ≤ limit
  pub gone : Skips r.before r.now count

-- the answer is right for the bytes that were read
pub record RepliesTo (limit : ℕ) (IsFor : List ℕ → Answer → Type 0) (r : Readings) (answer : Answer) : Type 0 where
  pub bytes : List ℕ
  pub read : WasRead limit r bytes
  pub replies : IsFor bytes answer

-- what may be answered to an input; want of memory may come at any time, but no fault is hidden by it
abbrev pub IsInputAnswer : ℕ → (List ℕ → Answer → Type 0) → Readings → Answer → Type 0
IsInputAnswer limit IsFor r answers.ReadFault = HasFailed limit r
IsInputAnswer limit IsFor r answers.TooLong = WasTooLong limit r
IsInputAnswer limit IsFor r answers.OutOfMemory = r.faults_now ≡ r.faults_before
IsInputAnswer limit IsFor r answer = RepliesTo limit IsFor r answer

-- the answer to an input that was not read whole
abbrev pub unread : ReadError → Answer
unread Fault = answers.ReadFault
unread TooLong = answers.TooLong
unread OutOfMemory = answers.OutOfMemory

-- the disk is as it was; or the input was read whole and spells reports, and what is left is this
abbrev pub LeavesAfterReports : {D : Type 0} → Readings → Type 0 → D → D → Type 0
LeavesAfterReports r Left before now = (now ≡ before) ⊎ (Left × ((bytes : List ℕ) × WasRead cover_limit r bytes × IsOk (reports_of bytes)))

module _ {D : Type 0} (on : Ghosts D) where
  -- the disk is as it was; or the named file was attached, the input was read whole and spells an instance, and a crash has left what a journal of it leaves that
  -- has begun
  abbrev pub LeavesOfSearch : ModelName → ℤ → List ℕ → Readings → D → D → Type 0
  LeavesOfSearch name within path r before now = (now ≡ before) ⊎ (Attaches on path before now × ((bytes : List ℕ) × WasRead text_limit r bytes
      × IsOkAnd ((theory_of name).spelled bytes) (λ numbers. HasLeftBegun on ((theory_of name).program numbers) (head_of (theory_of name) name within numbers) now)))

  -- what a job may answer; nothing is read for an instance that is drawn and for a journal, and the disk is as it was where no journal is kept; no search of
  -- a part keeps one
  abbrev pub IsJobAnswer : JobView → Readings → D → D → Answer → Type 0
  IsJobAnswer (solve name search None part) r before now answer = IsInputAnswer text_limit (SolvesText (theory_of name) name part search) r answer × (now ≡ before)
  IsJobAnswer (solve name given (Some path) (Some part)) r before now answer = ⊥
  IsJobAnswer (solve name search (Some path) None) r before now answer =
      IsInputAnswer text_limit (RepliesKept on name search before now) r answer × LeavesOfSearch name search.within path r before now
  IsJobAnswer (resume path search false) r before now answer = IsUntouched r × Resumes on [] search before now answer × LeavesAfterResume on MayFollow path before now
  IsJobAnswer (resume path search true) r before now answer =
      IsInputAnswer cover_limit (ResumesOffered on search before now) r answer × LeavesAfterReports r (LeavesAfterResume on MayFollow path before now) before now
  IsJobAnswer (split path part) r before now answer = IsUntouched r × Splits on part path before now answer
  IsJobAnswer check r before now answer = IsInputAnswer cover_limit IsChecked r answer × (now ≡ before)
  IsJobAnswer join r before now answer = IsInputAnswer cover_limit IsJoined r answer × (now ≡ before)
  IsJobAnswer (join_reports path) r before now answer =
      IsInputAnswer cover_limit (JoinsReports on path before now) r answer × LeavesAfterReports r (Attaches on path before now × IsUnwritten on now) before now
  IsJobAnswer (digest name) r before now answer = IsInputAnswer text_limit (DigestsText (theory_of name)) r answer × (now ≡ before)
  IsJobAnswer (generate name n seed solved) r before now answer = IsUntouched r × Draws (theory_of name) n seed solved answer × (now ≡ before)

  -- the words ask for a job, which may answer this
  pub record Answers (words : List (List ℕ)) (r : Readings) (before now : D) (answer : Answer) : Type 0 where
    pub job : JobView
    pub is_asked : meaning words ≡ Ok job
    pub right : IsJobAnswer job r before now answer

  -- when an answer is right: words are refused for their reason, or memory ran out for reading them, and then nothing was read and the disk is as it was
  abbrev pub IsRight : List (List ℕ) → Readings → D → D → Answer → Type 0
  IsRight words r before now (answers.Words e) = IfSome (refusal_of e) (λ why. meaning words ≡ Err why) × IsUntouched r × (now ≡ before)
  IsRight words r before now answer = Answers words r before now answer

-- the text was taken whole, no call failed, and none took nothing
pub record WasWritten (w : Writings) (text : List ℕ) : Type 0 where
  pub whole : w.now ≡ append_known w.before text
  pub sound : w.faults_now ≡ w.faults_before
  pub busy : w.idle_now ≡ w.idle_before

-- a call failed or took nothing, and a part of the text was taken, from the first byte on and not all
pub record WasCutShort (w : Writings) (text : List ℕ) : Type 0 where
  pub cause : Rose w.faults_before w.faults_now ⊎ Rose w.idle_before w.idle_now
  pub part : TakesSome w.before w.now text

-- the status of a text that was cut short: 7, but a source that failed goes before a sink that failed
abbrev pub cut_short_status : ℕ → ℕ
cut_short_status own = if own == 6 then 6 else 7

-- the text was written whole, with its status, or cut short, with the status for that
pub record Says (w : Writings) (text : List ℕ) (own status : ℕ) : Type 0 where
  pub outcome : ((status ≡ own) × WasWritten w text) ⊎ ((status ≡ cut_short_status own) × WasCutShort w text)

-- an answer was said: the given one, or that memory ran out for its text
pub record IsSaid (w : Writings) (given : Answer) (status : ℕ) : Type 0 where
  pub answer : Answer
  pub same : (answer ≡ given) ⊎ (answer ≡ answers.OutOfMemory)
  pub said : Says w (report answer) (status_of answer) status

-- a run ends with a right answer that is said
pub record HasEnded {D : Type 0} (on : Ghosts D) (words : List (List ℕ)) (r : Readings) (w : Writings) (before now : D) (status : ℕ) : Type 0 where
  pub answer : Answer
  pub right : IsRight on words r before now answer
  pub said : IsSaid w answer status
