use Rattle.board_laws.proofs.FinishingBoard.{finish-keeps}
use Rattle.board_laws.proofs.steps.finish_keeps.Goals as goal

pub returns : goal.returns
returns c = finish-keeps
