use Rattle.bound_cover.proofs.Sound.{checked-rows-bound}
use Rattle.bound_cover.proofs.theory.passing_rows_hold_all.Goals as goal

pub returns : goal.returns
returns c = λ dp claim cover laws e. checked-rows-bound dp laws claim cover e
