use Rattle.board_laws.proofs.Halting.{halt-keeps}
use Rattle.board_laws.proofs.steps.halt_keeps.Goals as goal

pub returns : goal.returns
returns c = halt-keeps
