use Rattle.board_laws.proofs.Improving.{improve-keeps}
use Rattle.board_laws.proofs.steps.improve_keeps.Goals as goal

pub returns : goal.returns
returns c = improve-keeps
