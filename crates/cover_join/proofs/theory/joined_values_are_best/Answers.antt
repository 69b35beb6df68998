use Rattle.cover_join.proofs.Accepting.{joined-best}
use Rattle.cover_join.proofs.theory.joined_values_are_best.Goals as goal

pub returns : goal.returns
returns c = λ dp p ps laws h. joined-best dp laws p ps h
