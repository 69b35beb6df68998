use Rattle.std.proofs.Common.{map}
use Rattle.journal_bytes.specs.Views.{record_view}
use Rattle.journal_replay.proofs.Basing.{base-first}
use Rattle.journal_replay.proofs.offsets.from_base.Goals as goal

pub loop-rest-init : goal.loop-rest-init
loop-rest-init c = base-first c.args.first (map record_view c.args.records.now)
