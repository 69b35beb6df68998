use Rattle.std.proofs.Common.{◌≡◌, ◌-◌, ap}
use Rattle.table_model.specs.Tests.{is_match}
use Rattle.table_model.specs.Places.{holds_at_one}
use Rattle.table_model.proofs.laws.has_match.Given as goal

-- a match is among the decisions that are left
abbrev pub invariant-choices : goal.invariant-choices
invariant-choices l = holds_at_one (is_match l.layer l.after l.a l.w l.gap) 0 l.choices ≡ holds_at_one (is_match l.layer l.after l.a l.w l.gap) l.e (l.choices - l.e)
