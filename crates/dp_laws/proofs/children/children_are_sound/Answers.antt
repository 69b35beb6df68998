use Rattle.dp_laws.proofs.Diagrams.Kinds.{children-sound}
use Rattle.dp_laws.proofs.children.children_are_sound.Goals as goal

pub returns : goal.returns
returns c = λ dp p w t d kind laws short h. children-sound dp laws p w t d kind h short
