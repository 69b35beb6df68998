use Rattle.dp_laws.proofs.Counting.{pots-positive}
use Rattle.dp_laws.proofs.counts.pots_are_positive.Goals as goal

pub returns : goal.returns
returns c = pots-positive
