use Rattle.journal_replay.proofs.Parted.{parts-recorded}
use Rattle.journal_replay.proofs.laws.parts_are_recorded.Goals as goal

pub returns : goal.returns
returns c = parts-recorded
