use Rattle.dp_laws.proofs.Reaches.{same-state-matches}
use Rattle.dp_laws.proofs.gaps.same_states_match.Goals as goal

pub returns : goal.returns
returns c = same-state-matches
