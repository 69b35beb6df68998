use Rattle.board_laws.proofs.Pushing.{pushes-are-fates}
use Rattle.board_laws.proofs.pushes.pushes_are_fates.Goals as goal

pub returns : goal.returns
returns c = pushes-are-fates
