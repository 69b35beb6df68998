-- When what is answered to the reports of all parts of a stopped search is right.
use Rattle.std.specs.Prelude.{◌≡◌, ◌≢◌, ◌⊎◌, ℕ, ◌+◌, ◌<◌, ℤ, List, [], ◌∷◌, length, Option, Some, None, MatchResult, IfSome, IsOk}
use Rattle.disk.specs.declared.disk.Disk.{Ghosts}
use Rattle.dp_model.specs.Dp.{Dp}
use Rattle.dp_model.specs.Lists.{Each}
use Rattle.dp_model.specs.Solution.{Solution}
use Rattle.board_laws.specs.Board.{BoardState, incumbent_value, value_held}
use Rattle.board_laws.specs.GoodBoard.{IncumbentHolds}
use Rattle.frontier_parts.specs.Settled.{joined}
use Rattle.journal_bytes.specs.Bodies.{RecordView}
use Rattle.journal_bytes.specs.Journal.{JournalView}
use Rattle.journal_bytes.specs.declared.head.Part.{Part}
use Rattle.journal_file.specs.declared.error.JournalError.TheVariants as errors
use Rattle.journal_replay.specs.Accepting.{AreAccepted, AreRefused}
use Rattle.journal_replay.specs.Sound.{AreSoundOf}
use Rattle.part_reports.specs.Joining.{IsHeldWithin}
use Rattle.part_reports.specs.Reports.{AreReports, IsFirstFault, ReportView, values_told}
use Rattle.part_reports.specs.declared.fault.ReportFault.{ReportFault}
use Rattle.part_reports.specs.declared.fault.ReportFault.TheVariants as faults
use Rattle.part_text.specs.Reports.{SettledView, reports_of}
use Rattle.problems.specs.Theories.{theory_of}
use Rattle.solver_report.specs.declared.answer.Answer.{Answer}
use Rattle.solver_report.specs.declared.answer.Answer.TheVariants as answers
use Rattle.solver_report.specs.declared.answer.Outcome.{Outcome}
use Rattle.solver_report.specs.declared.answer.Outcome.TheVariants as outcomes
use Rattle.solver_report.specs.declared.answer.PartOutcome.TheVariants.{Settled}
use Rattle.solver_report.specs.declared.answer.ReportRefusal.{ReportRefusal}
use Rattle.solver_report.specs.declared.answer.ReportRefusal.TheVariants as refusals
use Rattle.answers.specs.Journals.{Attaches, IsUnwritten}
use Rattle.answers.specs.Kept.{searched_part, starts_for}
use Rattle.answers.specs.Offers.{RefusesReport, parts_told}
use Rattle.answers.specs.Opened.{ReadsNamed}
use Rattle.answers.specs.Outcomes.{IsTrueOf}
use Rattle.answers.specs.PartSearches.{AreSettledWithin}
use Rattle.answers.specs.Reports.{IncumbentIsFeasible}
use Rattle.answers.specs.Splits.{stopped_board}

-- ---- refusals

-- each report has the distance
abbrev pub AreWithin : ℤ → List SettledView → Type 0
AreWithin within rs = Each (λ r. r.within ≡ within) rs

-- this is the place of the first report that has another distance, from the place i on
abbrev pub IsFirstFar : ℤ → ℕ → List SettledView → ℕ → Type 0
IsFirstFar within i [] place = ⊥
IsFirstFar within i (r ∷ rs) place = ((place ≡ i) × (r.within ≢ within)) ⊎ ((r.within ≡ within) × IsFirstFar within (i + 1) rs place)

-- the place of the first one with another distance, or none
abbrev pub DistancesGive : ℤ → ℕ → List SettledView → Option ℕ → Type 0
DistancesGive within i rs None = AreWithin within rs
DistancesGive within i rs (Some place) = IsFirstFar within i rs place

-- the fault of reports that a refusal tells, where it is not a distance
abbrev pub fault_told : ReportRefusal → Option ReportFault
fault_told (refusals.Order index) = Some (faults.Part index)
fault_told (refusals.Journal index) = Some (faults.Journal index)
fault_told (refusals.Distance index) = None
fault_told (refusals.Value index) = Some (faults.Value index)

-- this is their fault: the first one with another distance, or where there is none the first fault of what they tell
abbrev pub IsFaultOf : Dp → ℤ → List ℕ → List SettledView → ReportRefusal → Type 0
IsFaultOf dp within digest rs (refusals.Distance index) = IsFirstFar within 0 rs index
IsFaultOf dp within digest rs refusal = AreWithin within rs × IfSome (fault_told refusal) (IsFirstFault dp digest (length (parts_told rs)) 0 (parts_told rs))

-- reports are refused where there is none, and for their fault
abbrev pub AreReportsRefused : Dp → ℤ → List ℕ → List SettledView → ReportRefusal → Type 0
AreReportsRefused dp within digest rs refusal = ((rs ≡ []) × (refusal ≡ refusals.Order 0)) ⊎ IsFaultOf dp within digest rs refusal

-- an answer refuses them, or memory ran out
abbrev pub RefusesReports : Dp → ℤ → List ℕ → List SettledView → Answer → Type 0
RefusesReports dp within digest rs (answers.ReportsRefused refusal) = AreReportsRefused dp within digest rs refusal
RefusesReports dp within digest rs answers.OutOfMemory = Unit {0}
RefusesReports dp within digest rs _ = ⊥

-- ---- what is told

-- the greatest of the incumbent of a board and of the values of its parts
abbrev pub joined_of : BoardState → List ReportView → Option ℤ
joined_of b rs = joined (incumbent_value b) (values_told rs)

-- each report tells what the search of its part has settled: no completion of a start prefix is further above its value, or above the board's incumbent,
-- than the distance
abbrev pub AreAllHeld : Dp → BoardState → List ReportView → Type 0
AreAllHeld dp b rs = (i : ℕ) → i < length rs → IsHeldWithin dp b rs i

-- what is told of a whole search with a best solution, or none, within a distance
abbrev pub whole_outcome : ℤ → Option Solution → Outcome
whole_outcome within None = outcomes.Infeasible
whole_outcome within (Some best) = outcomes.Proved best within

-- the answer with it, of the search whose journal was split: a whole one or that of a part
abbrev pub joined_answer : Option Part → ℤ → Option Solution → Answer
joined_answer None within best = answers.Searched (whole_outcome within best) None
joined_answer (Some part) within best = answers.PartSearched (searched_part part) (Settled best within) None

-- it is true
abbrev pub IsTrueJoined : Dp → (List ℕ → Option ℤ) → Option Part → List (List ℕ) → ℤ → Option Solution → Type 0
IsTrueJoined dp own None starts within best = IsTrueOf dp own 0 (whole_outcome within best)
IsTrueJoined dp own (Some part) starts within best = AreSettledWithin dp own starts within best

-- a best solution of all reports of a board, or none: each report has the distance, there is one of each part, and what is found is a feasible solution of the
-- joined value
pub record HasBest (dp : Dp) (within : ℤ) (digest : List ℕ) (b : BoardState) (rs : List SettledView) (best : Option Solution) : Type 0 where
  pub some : 0 < length rs
  pub near : AreWithin within rs
  pub reports : AreReports dp digest (length (parts_told rs)) 0 (parts_told rs)
  pub value : value_held best ≡ joined_of b (parts_told rs)
  pub holds : IncumbentHolds dp best

-- so for the board that accepted records make
pub record HasJoined (dp : Dp) (within : ℤ) (digest : List ℕ) (records : List RecordView) (rs : List SettledView) (best : Option Solution) : Type 0 where
  pub accepted : AreAccepted dp records
  pub found : HasBest dp within digest (stopped_board dp within records) rs best

-- the best solution is told; that is true where the records are sound and each report tells what the search of its part has settled
pub record TellsJoined (dp : Dp) (own : List ℕ → Option ℤ) (starts : List (List ℕ)) (rs : List SettledView) (j : JournalView) (answer : Answer) : Type 0 where
  pub best : Option Solution
  pub told : answer ≡ joined_answer j.head.part j.head.within best
  pub joined : HasJoined dp j.head.within j.tail.digest j.records rs best
  pub found_one : IncumbentIsFeasible dp own best
  pub true_told : AreSoundOf dp starts j.head.within j.records → AreAllHeld dp (stopped_board dp j.head.within j.records) (parts_told rs) → IsTrueJoined dp own j.head.part starts j.head.within best

-- why reports are not joined: the first record that is refused, or else the reports are, or memory ran out
abbrev pub DoesNotJoin : Dp → ℤ → List ℕ → ℕ → List RecordView → List SettledView → Answer → Type 0
DoesNotJoin dp within digest first records rs (answers.Journal e) = AreRefused dp first records e
DoesNotJoin dp within digest first records rs (answers.ReportsRefused refusal) = AreAccepted dp records × AreReportsRefused dp within digest rs refusal
DoesNotJoin dp within digest first records rs answers.OutOfMemory = Unit {0}
DoesNotJoin dp within digest first records rs _ = ⊥

-- what may be answered for the journal of an instance: what the reports are joined to, or why they are not
abbrev pub JoinsFrom : Dp → (List ℕ → Option ℤ) → List (List ℕ) → List SettledView → JournalView → ℕ → Answer → Type 0
JoinsFrom dp own starts rs j first (answers.Searched outcome counts) = TellsJoined dp own starts rs j (answers.Searched outcome counts)
JoinsFrom dp own starts rs j first (answers.PartSearched part outcome counts) = TellsJoined dp own starts rs j (answers.PartSearched part outcome counts)
JoinsFrom dp own starts rs j first answer = DoesNotJoin dp j.head.within j.tail.digest first j.records rs answer

-- where it has no start prefixes, since that of a part does not begin with a snapshot, it is refused at its first record
abbrev pub JoinsIn : Dp → (List ℕ → Option ℤ) → Option (List (List ℕ)) → List SettledView → JournalView → ℕ → Answer → Type 0
JoinsIn dp own None rs j first answer = answer ≡ answers.Journal (errors.Malformed first)
JoinsIn dp own (Some starts) rs j first answer = JoinsFrom dp own starts rs j first answer

-- for a journal: for the instance of its head, whose text is refused as malformed at 0
abbrev pub JoinsJournal : List SettledView → JournalView → ℕ → Answer → Type 0
JoinsJournal rs j first answer =
    MatchResult ((theory_of j.head.model).spelled j.head.text)
    (λ numbers. JoinsIn ((theory_of j.head.model).program numbers) ((theory_of j.head.model).own_value numbers) (starts_for j.head.part j.records) rs j first answer)
    (λ e. answer ≡ answers.Journal (errors.Malformed 0))

module _ {D : Type 0} (on : Ghosts D) where
  -- what may be answered to the reports, for the journal in the named file, which is only read: or their first fault, and then the disk is as it was
  abbrev pub JoinsReports : List ℕ → D → D → List ℕ → Answer → Type 0
  JoinsReports path before now bytes answer =
      MatchResult (reports_of bytes) (λ rs. ReadsNamed on (JoinsJournal rs) path before now answer) (λ e. RefusesReport e answer × (now ≡ before))

  -- the disk is as it was; or the bytes spell reports, the named file was attached, and nothing was written
  abbrev pub LeavesRead : List ℕ → List ℕ → D → D → Type 0
  LeavesRead path bytes before now = (now ≡ before) ⊎ (Attaches on path before now × IsUnwritten on now × IsOk (reports_of bytes))
