use Rattle.board_laws.proofs.Taking.{take-keeps}
use Rattle.board_laws.proofs.steps.take_keeps.Goals as goal

pub returns : goal.returns
returns c = take-keeps
