use Rattle.std.proofs.Common.{length, map}
use Rattle.journal_bytes.specs.Views.{record_view}
use Rattle.journal_replay.proofs.Basing.{IsBaseSoFar}
use Rattle.journal_replay.proofs.offsets.from_base.Given as goal

abbrev pub invariant-loop-rest : goal.invariant-loop-rest
invariant-loop-rest l = IsBaseSoFar l.first (map record_view l.records) l.offset (map record_view l.base) l.at (map record_view l.rest)

abbrev pub decreases-loop-rest : goal.decreases-loop-rest
decreases-loop-rest l = length l.rest
