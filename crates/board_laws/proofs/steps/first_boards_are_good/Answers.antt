use Rattle.board_laws.proofs.First.{first-is-good}
use Rattle.board_laws.proofs.steps.first_boards_are_good.Goals as goal

pub returns : goal.returns
returns c = first-is-good
