use Rattle.dp_laws.proofs.Matching.{completions-matched}
use Rattle.dp_laws.proofs.gaps.completions_are_matched.Goals as goal

pub returns : goal.returns
returns c = completions-matched
