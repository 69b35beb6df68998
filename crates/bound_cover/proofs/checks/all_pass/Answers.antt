use Rattle.std.proofs.Common.{sym, ◌∙◌}
use Rattle.bound_cover.proofs.Turns.{after-some, after-none}
use Rattle.bound_cover.proofs.Passing.{turn-passes, turn-places, turn-passed}
use Rattle.bound_cover.proofs.checks.all_pass.Goals as goal
use Rattle.bound_cover.proofs.checks.all_pass.Goals.{then-is_some-2, else-is_some-2}

pub decisions-preserved : goal.decisions-preserved
decisions-preserved g c =
    let on = turn-passes _ _ _ _ _ _ _ _ _ _ _ c.choices-decision-end.ensures c.decisions-test.true c.decisions.invariant c.arc_at-arc.ensures c.step_fault-why.ensures c.if-is_some.ensures in
    elim c.if-is_some-2.branch [
      | then-is_some-2 w ↦ turn-places _ _ _ _ _ _ _ _ _ (after-some c.decisions.place c.arc_at-arc.result w.if-is_some-2.ensures ∙ sym w.place-is) on
      | else-is_some-2 w ↦ turn-places _ _ _ _ _ _ _ _ _ (after-none c.decisions.place c.arc_at-arc.result w.if-is_some-2.ensures ∙ sym w.place-is) on
    ]

pub returns : goal.returns
returns g c = λ e. turn-passed _ _ _ _ _ _ _ _ _ c.choices-decision-end.ensures c.decisions.auto.decision-end c.decisions-test.false c.decisions.invariant e
