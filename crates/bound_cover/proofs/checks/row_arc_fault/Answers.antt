use Rattle.std.proofs.Common.{◌≡◌, ℕ, ◌+◌, ℤ, ◌+ℤ◌, Bool, true, List, Option, Some, w64, refl, rules, sym, ◌∙◌}
use Rattle.std.proofs.lemmas.Int.{to_z-of_z}
use Rattle.dp_model.specs.Dp.{Dp}
use Rattle.dp_model.specs.Numbers.{add_some}
use Rattle.bound_cover.specs.declared.cover.Why.TheVariants.{Arc}
use Rattle.bound_cover.specs.Covers.{CoverRow}
use Rattle.bound_cover.specs.Tests.{is_at_most, is_state_row, unless}
use Rattle.bound_cover.specs.Stored.{shown_row, to_row_fault}
use Rattle.bound_cover.proofs.checks.row_arc_fault.Goals as goal
use Rattle.bound_cover.proofs.checks.row_arc_fault.Goals.{else-not-known-via-then-not-known+else-not-is_state_row, else-not-known-via-else-not-known}

-- an arc to a state that covers the next one fails where the bounds do not
tested_by : (dp : Dp) (k i d : ℕ) (gain gap : ℤ) (step : List ℤ) (bound : Option ℤ) (next : CoverRow) (within : Bool) → is_state_row dp (k + 1) next.words ≡ true
    → dp.gap (k + 1) next.words step ≡ Some gap → is_at_most (add_some (gain +ℤ gap) next.bound) bound ≡ within → to_row_fault dp k i gain step bound d (Some next) ≡ unless within (Arc k i d)
tested_by dp k i d gain gap step bound next within state covers is = rw (state, covers, is) refl

pub returns : goal.returns
returns g c =
    let dp : Dp = g.M.DpModel.meaning (g.M.DpModel.numbers c.args.model.now) in
    let state : is_state_row dp (c.args.at.layer + 1) c.in-Some.next.words.now ≡ true = elim c.else-not-known.branch [
      | else-not-known-via-then-not-known+else-not-is_state_row w ↦ sym w.is_state_row.ensures ∙ w.if-not-is_state_row.false
      | else-not-known-via-else-not-known w ↦ (rw c.in-Some.is at c.requires.states) w.if-not-known.false
    ] in
    let gain = to_z-of_z w64 c.args.transition.gain (search rules) in
    let gap = to_z-of_z w64 c.in-Some-gap.gap (search rules) in
    rw c.in-Some.is (c.bound_fault.ensures ∙ sym (tested_by dp c.args.at.layer c.args.at.number c.args.transition.decision c.args.transition.gain c.in-Some-gap.gap c.args.transition.state.now c.args.at.row.bound (shown_row c.in-Some.next) c.is_within-within.result state
    (sym c.gap.ensures ∙ c.in-Some-gap.is) (sym (rw (gain, gap) at c.is_within-within.ensures))))
