use Rattle.dp_laws.proofs.Restricted.Differing.{layers-differ}
use Rattle.dp_laws.proofs.layers.layers_differ.Goals as goal

pub returns : goal.returns
returns c = layers-differ
