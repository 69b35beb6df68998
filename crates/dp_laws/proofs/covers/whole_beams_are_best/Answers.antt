use Rattle.dp_laws.proofs.Restricted.Covering.{whole_beams-best}
use Rattle.dp_laws.proofs.covers.whole_beams_are_best.Goals as goal

pub returns : goal.returns
returns c = whole_beams-best
