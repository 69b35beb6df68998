use Rattle.kept_board.proofs.Growing.{fronts-added}
use Rattle.kept_board.proofs.laws.fronts_are_added.Goals as goal

pub returns : goal.returns
returns c dp = fronts-added dp
