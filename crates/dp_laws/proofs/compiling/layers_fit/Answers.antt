use Rattle.dp_laws.proofs.Rules.Fitting.{layers-fit}
use Rattle.dp_laws.proofs.compiling.layers_fit.Goals as goal

pub returns : goal.returns
returns c = layers-fit
