use Rattle.dp_laws.proofs.Diagrams.Placed.{children-placed}
use Rattle.dp_laws.proofs.children.children_have_places.Goals as goal

pub returns : goal.returns
returns c = children-placed
