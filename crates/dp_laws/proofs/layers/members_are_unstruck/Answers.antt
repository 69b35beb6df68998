use Rattle.dp_laws.proofs.Restricted.InOrder.{members-unstruck}
use Rattle.dp_laws.proofs.layers.members_are_unstruck.Goals as goal

pub returns : goal.returns
returns c = members-unstruck
