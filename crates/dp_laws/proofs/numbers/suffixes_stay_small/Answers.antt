use Rattle.dp_laws.proofs.Rules.Within.{suffixes-small}
use Rattle.dp_laws.proofs.numbers.suffixes_stay_small.Goals as goal

pub returns : goal.returns
returns c = suffixes-small
