use Rattle.frontier_parts.proofs.Searching.{boards_bound}
use Rattle.frontier_parts.proofs.searches.boards_bound.Goals as goal

pub returns : goal.returns
returns c = boards_bound
