use Rattle.std.proofs.Common.{◌≡◌, drop, map}
use Rattle.journal_bytes.specs.Journal.{since_all}
use Rattle.journal_bytes.specs.Views.{record_view}
use Rattle.journal_bytes.proofs.journal.since_all.Given as goal

abbrev pub invariant-loop-entry : goal.invariant-loop-entry
invariant-loop-entry l = since_all l.since (map record_view (drop l.entry-index l.records)) ≡ since_all 0 (map record_view l.records)
