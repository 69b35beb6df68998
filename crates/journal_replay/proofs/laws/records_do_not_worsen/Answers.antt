use Rattle.journal_replay.proofs.Joined.{not-worse}
use Rattle.journal_replay.proofs.laws.records_do_not_worsen.Goals as goal

pub returns : goal.returns
returns c = not-worse
