use Rattle.dp_laws.proofs.Matching.{gaps-add_up}
use Rattle.dp_laws.proofs.gaps.gaps_add_up.Goals as goal

pub returns : goal.returns
returns c = gaps-add_up
