use Rattle.std.proofs.Common.{◌≡◌, ◌-◌, ap}
use Rattle.table_model.specs.Tests.{failure_at}
use Rattle.table_model.specs.Places.{first_of}
use Rattle.table_model.proofs.laws.failure_from.Given as goal

-- the first failure is among the numbers that are left
abbrev pub invariant-seconds : goal.invariant-seconds
invariant-seconds l = first_of (failure_at l.layer l.after l.k l.law l.first) 0 l.seconds ≡ first_of (failure_at l.layer l.after l.k l.law l.first) l.second (l.seconds - l.second)
