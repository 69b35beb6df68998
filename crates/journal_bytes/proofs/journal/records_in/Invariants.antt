use Rattle.std.proofs.Common.{◌≡◌, map, drop}
use Rattle.journal_bytes.specs.Found.{frame}
use Rattle.journal_bytes.specs.Views.{record_view}
use Rattle.journal_bytes.specs.Journal.{records_from}
use Rattle.journal_bytes.proofs.Entries.{with_front}
use Rattle.journal_bytes.proofs.journal.records_in.Given as goal

abbrev pub invariant-loop-one : goal.invariant-loop-one
invariant-loop-one l = with_front (map record_view l.records.items) (records_from l.version l.at (map frame (drop l.one-index l.frames))) ≡ records_from l.version l.start (map frame l.frames)
