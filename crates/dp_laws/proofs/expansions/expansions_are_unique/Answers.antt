use Rattle.dp_laws.proofs.Restricted.Joining.{expansions-unique}
use Rattle.dp_laws.proofs.expansions.expansions_are_unique.Goals as goal

pub returns : goal.returns
returns c = expansions-unique
