use Rattle.std.proofs.Common.{arith}
use Rattle.bound_cover.proofs.Clamps.{clamped-passes, clamped-writable}
use Rattle.bound_cover.proofs.Reachable.{best-reachable}
use Rattle.bound_cover.proofs.theory.clamped_rows_pass.Goals as goal

pub returns : goal.returns
returns c = record {
  passes = λ dp claim cover laws reach e. clamped-passes dp laws claim reach cover e;
  reachable = λ dp laws. best-reachable dp laws;
  writable = λ dp cover laws long. clamped-writable dp 0 laws.sizes.vars cover (omega arith);
}
