use Rattle.std.proofs.Common.{◌≡◌, ◌-◌, ap}
use Rattle.table_model.specs.Tests.{covers_as}
use Rattle.table_model.specs.Places.{holds_at_all}
use Rattle.table_model.proofs.laws.covers_all_of.Given as goal

-- the states that are left decide
abbrev pub invariant-states : goal.invariant-states
invariant-states l = holds_at_all (covers_as l.layer l.z l.x) 0 l.states ≡ holds_at_all (covers_as l.layer l.z l.x) l.y (l.states - l.y)
