use Rattle.board_laws.proofs.Reading.{explored-best}
use Rattle.board_laws.proofs.boards.explored_is_best.Goals as goal

pub returns : goal.returns
returns c = explored-best
