use Rattle.journal_replay.proofs.Joined.{sound-restore-good}
use Rattle.journal_replay.proofs.laws.sound_records_restore_good.Goals as goal

pub returns : goal.returns
returns c = λ dp laws starts settings rs are accepted sound. sound-restore-good dp laws {starts = starts} settings rs are accepted sound
