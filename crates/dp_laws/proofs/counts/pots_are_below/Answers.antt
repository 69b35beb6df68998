use Rattle.dp_laws.proofs.Counting.{pots-below}
use Rattle.dp_laws.proofs.counts.pots_are_below.Goals as goal

pub returns : goal.returns
returns c = pots-below
