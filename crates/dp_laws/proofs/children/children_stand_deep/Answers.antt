use Rattle.dp_laws.proofs.Diagrams.Kinds.{last-exact-at, children-deep}
use Rattle.dp_laws.proofs.children.children_stand_deep.Goals as goal

pub returns : goal.returns
returns c = record {
  last_exact = λ dp p w t d laws short h. last-exact-at dp laws p w t d h short;
  either = λ dp p w t d kind laws short h. children-deep dp laws p w t d kind h short;
}
