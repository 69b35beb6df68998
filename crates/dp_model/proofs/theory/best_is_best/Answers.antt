use Rattle.dp_model.proofs.Solutions.{best-is_best}
use Rattle.dp_model.proofs.theory.best_is_best.Goals as goal

pub returns : goal.returns
returns c = best-is_best
