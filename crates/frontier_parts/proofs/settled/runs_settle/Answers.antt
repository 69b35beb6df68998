use Rattle.frontier_parts.proofs.Runs.{ran_settles, from_root}
use Rattle.frontier_parts.proofs.settled.runs_settle.Goals as goal

pub returns : goal.returns
returns c = record {
  settled = λ dp starts found before shown covers p has. ran_settles dp starts found before shown covers p has;
  whole = λ dp inc P covers. from_root dp inc P covers;
}
