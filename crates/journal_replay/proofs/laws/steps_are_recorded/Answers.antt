use Rattle.journal_replay.proofs.Steps.{steps-recorded}
use Rattle.journal_replay.proofs.laws.steps_are_recorded.Goals as goal

pub returns : goal.returns
returns c = steps-recorded
