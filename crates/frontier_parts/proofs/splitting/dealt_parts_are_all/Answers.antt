use Rattle.frontier_parts.proofs.Splits.{dealt_out}
use Rattle.frontier_parts.proofs.splitting.dealt_parts_are_all.Goals as goal

pub returns : goal.returns
returns c = λ dp inc splits. dealt_out dp inc splits
