use Rattle.dp_laws.proofs.Restricted.Found.{beams-feasible}
use Rattle.dp_laws.proofs.layers.beams_are_feasible.Goals as goal

pub returns : goal.returns
returns c = beams-feasible
