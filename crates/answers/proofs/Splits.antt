-- A part that is dealt out of a stopped search.
use Rattle.std.proofs.Common.{◌≡◌, ℕ, ℤ, List, [], ◌∷◌, Result, Ok, Err, arith}
use Rattle.std.specs.Prelude.{MatchResult}
use Rattle.dp_model.specs.Distances.{IsDistance}
use Rattle.dp_model.specs.Dp.{Dp}
use Rattle.dp_model.specs.Laws.{IsLawful}
use Rattle.board_laws.specs.Board.{AreSettings}
use Rattle.board_laws.specs.GoodBoard.{IsBoard}
use Rattle.board_laws.proofs.Restoring.{restored-boards-keep}
use Rattle.frontier_parts.specs.Dealing.{is_dealt}
use Rattle.journal_bytes.specs.Bodies.{RecordView}
use Rattle.journal_bytes.specs.Journal.{HasRecords, JournalView}
use Rattle.journal_file.specs.declared.error.JournalError.TheVariants as errors
use Rattle.journal_replay.specs.Accepting.{AreAccepted}
use Rattle.journal_replay.specs.Following.{snapshot_record}
use Rattle.journal_replay.specs.Parts.{IsPartRecorded}
use Rattle.journal_replay.specs.Replay.{replay_of}
use Rattle.journal_replay.proofs.Joined.{sound-restore-good}
use Rattle.journal_replay.proofs.Parted.{parts-recorded}
use Rattle.journal_replay.proofs.Restored.{accepted-restore}
use Rattle.part_records.specs.Parts.{bounds_in, listed_by}
use Rattle.problem_names.specs.declared.part.PartNumber.{PartNumber}
use Rattle.problems.specs.Theories.{theory_of}
use Rattle.solver_report.specs.declared.answer.Answer.{Answer}
use Rattle.solver_report.specs.declared.answer.Answer.TheVariants as answers
use Rattle.answers.specs.Splits.{IsFileOf, IsPartFile, SplitsIn, SplitsJournal, idle_settings, part_head, part_record, stopped_board}
use Rattle.answers.proofs.Opened.{refused-not-disk}

-- settings of a board of which no search is made
pub idle-are : (within : ℤ) → IsDistance within → AreSettings (idle_settings within)
idle-are within near = record { some_workers = omega arith; few_workers = omega arith; some_width = omega arith; distance = near }

-- the board of accepted records
pub stopped-is : (dp : Dp) → IsLawful dp → (within : ℤ) → IsDistance within → (records : List RecordView) → AreAccepted dp records → IsBoard dp (stopped_board dp within records)
stopped-is dp laws within near records accepted =
    let s = replay_of dp records in
    (restored-boards-keep dp laws (idle_settings within) s.incumbent s.listed s.next_ticket (idle-are within near) (accepted-restore dp laws records accepted)).board

-- a part of it
pub part-file : (dp : Dp) → IsLawful dp → (j : JournalView) → IsDistance j.head.within → (part : PartNumber) → AreAccepted dp j.records → (bytes : List ℕ)
    → HasRecords (part_head j.head j.tail.digest part) (part_record dp j.head.within j.records part ∷ []) bytes → IsPartFile dp j part bytes
part-file dp laws j near part accepted bytes reads =
    let within = j.head.within in
    let b = stopped_board dp within j.records in
    let recorded : IsPartRecorded dp b (part_record dp within j.records part) = parts-recorded dp laws b (is_dealt (bounds_in (listed_by (snapshot_record b))) part.of part.index) (stopped-is dp laws within near j.records accepted) in
    record {
      accepted = accepted;
      reads = reads;
      may_begin = recorded.accepted;
      sound = λ starts sound. recorded.sound {starts = starts} (sound-restore-good dp laws {starts = starts} (idle_settings within) j.records (idle-are within near) accepted sound);
    }

-- what is answered with its record
pub split-told : (dp : Dp) → IsLawful dp → (j : JournalView) → IsDistance j.head.within → (part : PartNumber) → AreAccepted dp j.records → (first : ℕ) (answer : Answer)
    → IsFileOf (part_head j.head j.tail.digest part) (part_record dp j.head.within j.records part) answer → SplitsIn dp j first part answer
split-told dp laws j near part accepted first (answers.PartFile bytes) h = part-file dp laws j near part accepted bytes.items h
split-told dp laws j near part accepted first answers.PartTooLarge h = (accepted, h)
split-told dp laws j near part accepted first answers.OutOfMemory h = tt
split-told dp laws j near part accepted first answer h = absurd h

-- a journal is not refused for the disk
pub split-not-disk : (part : PartNumber) (j : JournalView) (first : ℕ) → SplitsJournal part j first (answers.Journal errors.Disk) → ⊥
split-not-disk part j first h = never ((theory_of j.head.model).spelled j.head.text) h
  where
    never : {E : Type 0} (r : Result (List ℤ) E) → MatchResult r (λ numbers. SplitsIn ((theory_of j.head.model).program numbers) j first part (answers.Journal errors.Disk))
        (λ e. answers.Journal errors.Disk ≡ answers.Journal (errors.Malformed 0)) → ⊥
    never (Ok numbers) refused = refused-not-disk ((theory_of j.head.model).program numbers) first j.records refused
    never (Err e) same = cc
