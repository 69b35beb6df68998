use Rattle.board_laws.proofs.GivingBack.{give-back-keeps}
use Rattle.board_laws.proofs.steps.give_back_keeps.Goals as goal

pub returns : goal.returns
returns c = give-back-keeps
