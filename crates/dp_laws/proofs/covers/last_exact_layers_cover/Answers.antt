use Rattle.dp_laws.proofs.Restricted.Covering.{last_exact-cover}
use Rattle.dp_laws.proofs.covers.last_exact_layers_cover.Goals as goal

pub returns : goal.returns
returns c = last_exact-cover
