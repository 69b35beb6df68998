use Rattle.std.proofs.Common.{Some, sym, ◌∙◌, ap}
use Rattle.bound_cover.proofs.Walking.{rest_fault}
use Rattle.bound_cover.proofs.Turns.{turn-following, turn-fails, turn-on, after-some, after-none, turn-ends, turn-to}
use Rattle.bound_cover.proofs.checks.first_decision_fault.Goals as goal
use Rattle.bound_cover.proofs.checks.first_decision_fault.Goals.{then-is_some-2, else-is_some-2}

pub returns-then-eq : goal.returns-then-eq
returns-then-eq g c = ap (λ w. Some w) c.why_target.ensures ∙ turn-following _ _ _ _ _ _ _ _ _ c.decisions.invariant c.least_after-following.ensures c.if-eq.ensures

pub returns-then-is_some : goal.returns-then-is_some
returns-then-is_some g c =
    turn-fails _ _ _ _ _ _ _ _ _ _ _ _ c.choices-decision-end.ensures c.decisions-test.true c.decisions.invariant c.least_after-following.ensures c.if-eq.ensures c.arc_at-arc.ensures c.step_fault-why.ensures c.if-is_some.ensures

pub decisions-preserved : goal.decisions-preserved
decisions-preserved g c =
    let on = turn-on _ _ _ _ _ _ _ _ _ _ _ _ c.choices-decision-end.ensures c.decisions-test.true c.decisions.invariant c.least_after-following.ensures c.if-eq.ensures c.arc_at-arc.ensures c.step_fault-why.ensures c.if-is_some.ensures in
    elim c.if-is_some-2.branch [
      | then-is_some-2 w ↦ turn-to _ _ _ _ _ _ _ _ _ (after-some c.decisions.place c.arc_at-arc.result w.if-is_some-2.ensures ∙ sym w.place-is) on
      | else-is_some-2 w ↦ turn-to _ _ _ _ _ _ _ _ _ (after-none c.decisions.place c.arc_at-arc.result w.if-is_some-2.ensures ∙ sym w.place-is) on
    ]

pub returns-in-Some : goal.returns-in-Some
returns-in-Some g c =
    ap (λ w. Some w) c.why_target-in-Some.ensures ∙ (ap (rest_fault c.args.at.layer c.args.at.number) (sym c.in-Some.is) ∙ turn-ends _ _ _ _ _ _ _ _ _ _ _ c.choices-decision-end.ensures c.decisions.auto.decision-end c.decisions-test.false c.decisions.invariant c.least_after-following.ensures c.least_left.ensures)

pub returns-in-None : goal.returns-in-None
returns-in-None g c =
    ap (rest_fault c.args.at.layer c.args.at.number) (sym c.in-None.is) ∙ turn-ends _ _ _ _ _ _ _ _ _ _ _ c.choices-decision-end.ensures c.decisions.auto.decision-end c.decisions-test.false c.decisions.invariant c.least_after-following.ensures c.least_left.ensures
