use Rattle.board_laws.proofs.Starting.{starts-cover}
use Rattle.board_laws.proofs.starts.starts_cover.Goals as goal

pub returns : goal.returns
returns c = starts-cover
