use Rattle.dp_laws.proofs.Restricted.Covering.{layers-cover}
use Rattle.dp_laws.proofs.covers.whole_layers_cover.Goals as goal

pub returns : goal.returns
returns c = layers-cover
