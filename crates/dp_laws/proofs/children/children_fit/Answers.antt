use Rattle.dp_laws.proofs.Diagrams.Fits.{children-fit}
use Rattle.dp_laws.proofs.children.children_fit.Goals as goal

pub returns : goal.returns
returns c = λ dp p w t d laws short h. children-fit dp laws p w t d short h
