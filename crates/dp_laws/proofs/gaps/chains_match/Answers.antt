use Rattle.dp_laws.proofs.Matching.{chains-match}
use Rattle.dp_laws.proofs.gaps.chains_match.Goals as goal

pub returns : goal.returns
returns c = chains-match
