-- When a part that is dealt out of a stopped search is right.
use Rattle.std.specs.Prelude.{◌≡◌, ℕ, ℤ, false, List, [], ◌∷◌, Some, MatchResult}
use Rattle.disk.specs.declared.disk.Disk.{Ghosts}
use Rattle.dp_model.specs.Dp.{Dp}
use Rattle.board_laws.specs.Board.{BoardState}
use Rattle.board_laws.specs.declared.settings.Settings.{Settings}
use Rattle.journal_bytes.specs.Bodies.{RecordView}
use Rattle.journal_bytes.specs.Journal.{HeadView, HasRecords, JournalView}
use Rattle.journal_bytes.specs.declared.head.TheConstants.{VERSION}
use Rattle.journal_file.specs.declared.error.JournalError.TheVariants as errors
use Rattle.journal_replay.specs.Accepting.{AreAccepted, AreRefused}
use Rattle.journal_replay.specs.Following.{snapshot_record}
use Rattle.journal_replay.specs.Parts.{starts_of}
use Rattle.journal_replay.specs.Replay.{replay_of, restored_from}
use Rattle.journal_replay.specs.Sound.{AreSoundOf}
use Rattle.part_files.specs.Fitting.{are_short}
use Rattle.part_records.specs.Parts.{dealt_record}
use Rattle.problem_names.specs.declared.part.PartNumber.{PartNumber}
use Rattle.problems.specs.Theories.{theory_of}
use Rattle.solver_report.specs.declared.answer.Answer.{Answer}
use Rattle.solver_report.specs.declared.answer.Answer.TheVariants as answers
use Rattle.answers.specs.Opened.{ReadsNamed}

-- the settings of a board of which no search is made
abbrev pub idle_settings : ℤ → Settings
idle_settings within = record { workers = 1; budget = 0; table_limit = 0; width = 1; within = within }

-- the board of a stopped search: what the records of its journal make, within its distance
abbrev pub stopped_board : Dp → ℤ → List RecordView → BoardState
stopped_board dp within records = restored_from (idle_settings within) (replay_of dp records)

-- the record of a part of it
abbrev pub part_record : Dp → ℤ → List RecordView → PartNumber → RecordView
part_record dp within records part = dealt_record part.of part.index (snapshot_record (stopped_board dp within records))

-- the head of the part's journal: that of the journal that is split, with the part, and with the digest of the last record there
abbrev pub part_head : HeadView → List ℕ → PartNumber → HeadView
part_head head digest part = record { version = VERSION; within = head.within; model = head.model; part = Some (record { index = part.index; of = part.of; digest = digest }); text = head.text }

-- the bytes of a part: a journal with this head and this record, with which a search may begin, and which is sound from its start prefixes where the records
-- of the journal that is split are sound from any
pub record IsPartFile (dp : Dp) (j : JournalView) (part : PartNumber) (bytes : List ℕ) : Type 0 where
  pub accepted : AreAccepted dp j.records
  pub reads : HasRecords (part_head j.head j.tail.digest part) (part_record dp j.head.within j.records part ∷ []) bytes
  pub may_begin : AreAccepted dp (part_record dp j.head.within j.records part ∷ [])
  pub sound : (starts : List (List ℕ)) → AreSoundOf dp starts j.head.within j.records
      → AreSoundOf dp (starts_of (part_record dp j.head.within j.records part)) j.head.within (part_record dp j.head.within j.records part ∷ [])

-- what may be answered with the record of a part: the bytes of a journal with this head and this record, or that they are too many
abbrev pub IsFileOf : HeadView → RecordView → Answer → Type 0
IsFileOf head r (answers.PartFile bytes) = HasRecords head (r ∷ []) bytes.items
IsFileOf head r answers.PartTooLarge = are_short head r ≡ false
IsFileOf head r answers.OutOfMemory = Unit {0}
IsFileOf head r _ = ⊥

-- what may be answered for the journal of an instance: the bytes of the part, that they are too many, or the first record that is refused
abbrev pub SplitsIn : Dp → JournalView → ℕ → PartNumber → Answer → Type 0
SplitsIn dp j first part (answers.PartFile bytes) = IsPartFile dp j part bytes.items
SplitsIn dp j first part answers.PartTooLarge = AreAccepted dp j.records × (are_short (part_head j.head j.tail.digest part) (part_record dp j.head.within j.records part) ≡ false)
SplitsIn dp j first part (answers.Journal e) = AreRefused dp first j.records e
SplitsIn dp j first part answers.OutOfMemory = Unit {0}
SplitsIn dp j first part _ = ⊥

-- for a journal: for the instance of its head, whose text is refused as malformed at 0
abbrev pub SplitsJournal : PartNumber → JournalView → ℕ → Answer → Type 0
SplitsJournal part j first answer =
    MatchResult ((theory_of j.head.model).spelled j.head.text)
    (λ numbers. SplitsIn ((theory_of j.head.model).program numbers) j first part answer)
    (λ e. answer ≡ answers.Journal (errors.Malformed 0))

-- what `split` may answer for the journal in the named file, which is only read
abbrev pub Splits : {D : Type 0} → Ghosts D → PartNumber → List ℕ → D → D → Answer → Type 0
Splits on part path before now answer = ReadsNamed on (SplitsJournal part) path before now answer
