use Rattle.dp_model.specs.Reached.{reached}
use Rattle.dp_laws.proofs.Diagrams.Kinds.{children-sound}
use Rattle.dp_laws.specs.Rules.Compiling.{relaxed}
use Rattle.dp_laws.proofs.Rules.Diagrams.{compiled-is-diagram}
use Rattle.dp_laws.proofs.compiling.relaxed_children_are_sound.Goals as goal

pub returns : goal.returns
returns c = λ dp p w t kind laws chained h short some.
    children-sound dp laws p w t (relaxed dp (reached dp p) w t) kind (compiled-is-diagram dp laws chained p w t h short some) short
