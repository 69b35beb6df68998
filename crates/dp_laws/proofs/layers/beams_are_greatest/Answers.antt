use Rattle.dp_laws.proofs.Restricted.InOrder.{beams-greatest}
use Rattle.dp_laws.proofs.layers.beams_are_greatest.Goals as goal

pub returns : goal.returns
returns c = beams-greatest
