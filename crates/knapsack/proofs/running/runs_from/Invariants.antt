use Rattle.std.proofs.Common.{◌≡◌, ◌++◌, ◌*◌, ◌≤◌, drop}
use Rattle.knapsack.specs.Placed.{kept_from}
use Rattle.knapsack.specs.Runs.{weights_of, begun_of}
use Rattle.knapsack.proofs.running.runs_from.Given as goal

-- the runs so far and those of the items that are left make all runs
abbrev pub invariant-loop-placed : goal.invariant-loop-placed
invariant-loop-placed l = record {
  weights : l.weights.items ++ weights_of l.weight (kept_from l.layer (drop l.placed-index l.order)) ≡ weights_of 0 (kept_from l.layer l.order);
  begun : l.begun.items ++ begun_of l.before (kept_from l.layer (drop l.placed-index l.order)) ≡ begun_of 0 (kept_from l.layer l.order);
  light : l.weight ≤ l.placed-index * 1000000000000;
  small : l.before ≤ l.placed-index * 1000000000000;
}
