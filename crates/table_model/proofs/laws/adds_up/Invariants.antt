use Rattle.std.proofs.Common.{◌≡◌, ◌-◌, ap}
use Rattle.table_model.specs.Tests.{adds_up_by}
use Rattle.table_model.specs.Places.{holds_at_all}
use Rattle.table_model.proofs.laws.adds_up.Given as goal

-- the states that are left decide
abbrev pub invariant-between : goal.invariant-between
invariant-between l = holds_at_all (adds_up_by l.layer l.a l.c) 0 l.states ≡ holds_at_all (adds_up_by l.layer l.a l.c) l.b (l.states - l.b)
