use Rattle.dp_laws.proofs.Rules.Ranked.{exact-unstruck}
use Rattle.dp_laws.proofs.compiling.exact_nodes_are_unstruck.Goals as goal

pub returns : goal.returns
returns c = exact-unstruck
