use Rattle.dp_model.specs.Best.{best}
use Rattle.dp_model.proofs.Solutions.{best-is_best, IsBest-unique}
use Rattle.dp_model.proofs.theory.best_is_unique.Goals as goal

pub returns : goal.returns
returns c = λ dp v h. IsBest-unique dp v (best dp) h (best-is_best dp)
