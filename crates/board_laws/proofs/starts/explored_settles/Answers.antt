use Rattle.board_laws.proofs.Reading.{explored-settles}
use Rattle.board_laws.proofs.starts.explored_settles.Goals as goal

pub returns : goal.returns
returns c = explored-settles
