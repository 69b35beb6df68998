use Rattle.journal_replay.proofs.Joined.{records-join}
use Rattle.journal_replay.proofs.laws.records_join.Goals as goal

pub returns : goal.returns
returns c = records-join
