use Rattle.board_laws.proofs.Starting.{parts-keep}
use Rattle.board_laws.proofs.starts.parts_keep.Goals as goal

pub returns : goal.returns
returns c = parts-keep
