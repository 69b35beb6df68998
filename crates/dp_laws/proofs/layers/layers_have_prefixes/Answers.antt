use Rattle.dp_laws.proofs.Prefixes.{layers-prefixes}
use Rattle.dp_laws.proofs.layers.layers_have_prefixes.Goals as goal

pub returns : goal.returns
returns c = layers-prefixes
