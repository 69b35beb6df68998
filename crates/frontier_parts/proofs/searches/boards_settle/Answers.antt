use Rattle.frontier_parts.proofs.Searching.{boards_settle}
use Rattle.frontier_parts.proofs.searches.boards_settle.Goals as goal

pub returns : goal.returns
returns c = boards_settle
