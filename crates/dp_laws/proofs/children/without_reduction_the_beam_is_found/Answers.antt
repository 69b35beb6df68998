use Rattle.dp_laws.proofs.Diagrams.Kinds.{beam-in}
use Rattle.dp_laws.proofs.children.without_reduction_the_beam_is_found.Goals as goal

pub returns : goal.returns
returns c = λ dp p w t d short h e. beam-in dp p w t d h short e
