use Rattle.dp_laws.proofs.Rules.Diagrams.{compiled-is-diagram}
use Rattle.dp_laws.proofs.compiling.relaxed_diagrams_are_as_seen.Goals as goal

pub returns : goal.returns
returns c = λ dp p w t laws chained h short some. compiled-is-diagram dp laws chained p w t h short some
