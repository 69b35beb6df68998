use Rattle.dp_laws.proofs.Diagrams.Kinds.{found-greatest}
use Rattle.dp_laws.proofs.children.found_is_greatest.Goals as goal

pub returns : goal.returns
returns c = found-greatest
