use Rattle.std.proofs.Common.{◌≡◌, ◌-◌, ap}
use Rattle.table_model.specs.Tests.{is_matched_at}
use Rattle.table_model.specs.Places.{holds_at_all}
use Rattle.table_model.proofs.laws.are_matched.Given as goal

-- the decisions that are left decide
abbrev pub invariant-choices : goal.invariant-choices
invariant-choices l = holds_at_all (is_matched_at l.layer l.after l.a l.s l.gap) 0 l.choices ≡ holds_at_all (is_matched_at l.layer l.after l.a l.s l.gap) l.d (l.choices - l.d)
