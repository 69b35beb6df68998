use Rattle.std.proofs.Common.{◌≡◌, ◌-◌}
use Rattle.table_model.specs.Places.{holds_at_all}
use Rattle.table_model.specs.Shape.{row_alike, are_all_alike}
use Rattle.table_model.proofs.shape.are_all_alike.Given as goal

-- the states that are left decide
abbrev pub invariant-states : goal.invariant-states
invariant-states l = are_all_alike l.layer ≡ holds_at_all (row_alike l.layer) l.s (l.states - l.s)
