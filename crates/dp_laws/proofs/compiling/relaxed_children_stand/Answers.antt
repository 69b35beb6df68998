use Rattle.dp_laws.proofs.Rules.Ranked.{children-stand}
use Rattle.dp_laws.proofs.compiling.relaxed_children_stand.Goals as goal

pub returns : goal.returns
returns c = λ dp laws chained p w t kind prefix short some. children-stand dp laws chained p w t prefix short some kind
