use Rattle.dp_laws.proofs.Rules.Within.{numbers-small}
use Rattle.dp_laws.proofs.numbers.numbers_stay_small.Goals as goal

pub returns : goal.returns
returns c = numbers-small
