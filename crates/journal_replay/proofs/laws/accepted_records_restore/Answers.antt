use Rattle.journal_replay.proofs.Restored.{accepted-restore}
use Rattle.journal_replay.proofs.laws.accepted_records_restore.Goals as goal

pub returns : goal.returns
returns c = accepted-restore
