use Rattle.dp_laws.proofs.Diagrams.Outer.{frontier-outer}
use Rattle.dp_laws.proofs.children.frontier_is_outer.Goals as goal

pub returns : goal.returns
returns c = frontier-outer
