use Rattle.board_laws.proofs.Reading.{explored-within}
use Rattle.board_laws.proofs.boards.explored_is_within_reach.Goals as goal

pub returns : goal.returns
returns c = explored-within
