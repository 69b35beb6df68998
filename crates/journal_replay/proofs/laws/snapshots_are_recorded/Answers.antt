use Rattle.journal_replay.proofs.Snapshots.{snapshots-recorded}
use Rattle.journal_replay.proofs.laws.snapshots_are_recorded.Goals as goal

pub returns : goal.returns
returns c = snapshots-recorded
