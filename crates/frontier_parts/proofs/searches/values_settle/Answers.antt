use Rattle.frontier_parts.proofs.Searching.{values_settle}
use Rattle.frontier_parts.proofs.searches.values_settle.Goals as goal

pub returns : goal.returns
returns c = values_settle
