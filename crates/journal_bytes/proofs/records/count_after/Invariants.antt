use Rattle.std.proofs.Common.{◌≡◌, ◌≤◌, drop, map}
use Rattle.journal_bytes.specs.Views.{record_view}
use Rattle.journal_bytes.proofs.Bases.{count_after}
use Rattle.journal_bytes.proofs.records.count_after.Given as goal

abbrev pub invariant-loop-entry : goal.invariant-loop-entry
invariant-loop-entry l = record {
  same : count_after l.count (map record_view (drop l.entry-index l.records)) ≡ count_after 0 (map record_view l.records);
  few : l.count ≤ l.entry-index;
}
