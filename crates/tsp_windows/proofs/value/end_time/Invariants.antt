use Rattle.std.proofs.Common.{length}
use Rattle.tsp_windows.specs.Shown.{instance_in}
use Rattle.tsp_windows.proofs.OnTheWay.{IsOnTheWay}
use Rattle.tsp_windows.proofs.value.end_time.Given as goal

abbrev pub invariant-visits : goal.invariant-visits
invariant-visits l = IsOnTheWay (instance_in l.model) l.here l.time l.rest l.visits

abbrev pub decreases-visits : goal.decreases-visits
decreases-visits l = length l.rest
