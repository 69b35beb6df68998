use Rattle.dp_laws.proofs.Matching.{continuations-matched}
use Rattle.dp_laws.proofs.gaps.continuations_are_matched.Goals as goal

pub returns : goal.returns
returns c = continuations-matched
