use Rattle.std.proofs.Common.{◌≡◌, ℕ, ◌<◌, length, get_or}
use Rattle.knapsack.specs.Placed.{kept_from}
use Rattle.knapsack.specs.Runs.{AreRunsOf}
use Rattle.knapsack.specs.declared.running.Runs.{Runs}
use Rattle.knapsack.proofs.running.runs_by_layer.Given as goal

-- the layers so far
abbrev pub invariant-loop-k : goal.invariant-loop-k
invariant-loop-k l = record {
  many : length l.layers.items ≡ l.k;
  each : (k : ℕ) (d : Runs) → k < length l.layers.items → AreRunsOf (kept_from k l.order) (get_or l.layers.items k d);
}
