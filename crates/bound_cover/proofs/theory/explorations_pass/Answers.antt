use Rattle.dp_model.specs.Best.{best}
use Rattle.dp_model.proofs.Solutions.{best-is_best}
use Rattle.bound_cover.proofs.Drafts.{exploration-accepted, best-holds}
use Rattle.bound_cover.proofs.theory.explorations_pass.Goals as goal

pub returns : goal.returns
returns c = record {
  claim = λ dp claim w ds cover laws most e. exploration-accepted dp laws claim most w ds cover e;
  best = λ dp w ds cover laws e. exploration-accepted dp laws (best dp) (best-holds dp (best dp) (best-is_best dp)) w ds cover e;
}
