use Rattle.std.proofs.Common.{◌≡◌, ◌-◌, ap}
use Rattle.table_model.specs.Tests.{failure_in, first_failure}
use Rattle.table_model.specs.Places.{first_of}
use Rattle.table_model.proofs.laws.first_failure.Given as goal

-- the first failure is at the layers that are left
abbrev pub invariant-layers : goal.invariant-layers
invariant-layers l = first_failure l.layers ≡ first_of (failure_in l.layers) l.k (l.count - l.k)
