use Rattle.board_laws.proofs.Running.{steps-keep}
use Rattle.board_laws.proofs.runs.steps_keep.Goals as goal

pub returns : goal.returns
returns c = steps-keep
