use Rattle.dp_laws.proofs.Reaches.{floors-match}
use Rattle.dp_laws.proofs.floors.floors_match.Goals as goal

pub returns : goal.returns
returns c = floors-match
