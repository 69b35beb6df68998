use Rattle.std.proofs.Common.{◌≡◌, ◌-◌, ap}
use Rattle.table_model.specs.Tests.{failure_from}
use Rattle.table_model.specs.Places.{first_of}
use Rattle.table_model.proofs.laws.failure_of.Given as goal

-- the first failure is at the states that are left
abbrev pub invariant-firsts : goal.invariant-firsts
invariant-firsts l = first_of (failure_from l.layer l.after l.k l.law) 0 l.states ≡ first_of (failure_from l.layer l.after l.k l.law) l.first (l.states - l.first)
