use Rattle.bound_cover.proofs.Ends.{there-is-an-end}
use Rattle.bound_cover.proofs.theory.explorations_end.Goals as goal

pub returns : goal.returns
returns c = λ dp claim w laws chained most wide. there-is-an-end dp laws chained claim most w wide
