use Rattle.std.proofs.Common.{pos, refl}
use Rattle.bound_cover.specs.Verdicts.{checked}
use Rattle.bound_cover.proofs.Sound.{accepted-is-near, accepted-is-best, accepted-none}
use Rattle.bound_cover.proofs.theory.accepted_values_are_best.Goals as goal

pub returns : goal.returns
returns c = record {
  near = λ dp value within x cover laws e. accepted-is-near dp laws value within x cover (accepted-none (checked dp value within x cover) e);
  best = λ dp value x cover laws e. accepted-is-best dp laws value (pos 0) x cover (accepted-none (checked dp value (pos 0) x cover) e) refl;
}
