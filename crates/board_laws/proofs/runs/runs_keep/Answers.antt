use Rattle.board_laws.proofs.Running.{runs-keep}
use Rattle.board_laws.proofs.runs.runs_keep.Goals as goal

pub returns : goal.returns
returns c = runs-keep
