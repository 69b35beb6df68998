use Rattle.frontier_parts.proofs.Searching.{frontiers_join}
use Rattle.frontier_parts.proofs.searches.frontiers_join.Goals as goal

pub returns : goal.returns
returns c = frontiers_join
