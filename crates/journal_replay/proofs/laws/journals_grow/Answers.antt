use Rattle.journal_replay.proofs.Joined.{journals-grow}
use Rattle.journal_replay.proofs.laws.journals_grow.Goals as goal

pub returns : goal.returns
returns c = journals-grow
