use Rattle.dp_laws.proofs.Rules.Fitting.{finds-beam}
use Rattle.dp_laws.proofs.compiling.restricted_diagrams_find_the_beam.Goals as goal

pub returns : goal.returns
returns c = finds-beam
