use Rattle.cover_join.proofs.Accepting.{joined-accepted}
use Rattle.cover_join.proofs.theory.joined_covers_are_accepted.Goals as goal

pub returns : goal.returns
returns c = λ dp p ps laws h. joined-accepted dp laws p ps h
