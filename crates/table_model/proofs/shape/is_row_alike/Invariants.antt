use Rattle.std.proofs.Common.{◌≡◌, ◌-◌}
use Rattle.table_model.specs.Places.{holds_at_all}
use Rattle.table_model.specs.Shape.{alike_at, row_alike}
use Rattle.table_model.proofs.shape.is_row_alike.Given as goal

-- the decisions that are left decide
abbrev pub invariant-choices : goal.invariant-choices
invariant-choices l = row_alike l.layer l.s ≡ holds_at_all (alike_at l.layer l.s) l.d (l.choices - l.d)
