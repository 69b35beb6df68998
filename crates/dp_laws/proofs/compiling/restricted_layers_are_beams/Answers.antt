use Rattle.dp_laws.proofs.Rules.Relaxed.{restricted-stands}
use Rattle.dp_laws.proofs.compiling.restricted_layers_are_beams.Goals as goal

pub returns : goal.returns
returns c = restricted-stands
