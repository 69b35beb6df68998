use Rattle.std.proofs.Common.{◌≡◌, inl, ◌∙◌, sym, ap, subst, rules, FitsSigned, to_z, of_z, w64, Some, ◌≢◌, IsSome, Err}
use Rattle.std.proofs.lemmas.Int.{to_z-of_z}
use Rattle.board_laws.specs.declared.cause.Cause.TheVariants.{Journal}
use Rattle.board_laws.specs.Runs.{after}
use Rattle.board_laws.specs.Runs.Step.{Improve as StepImprove}
use Rattle.board_laws.specs.Steps.{halted}
use Rattle.dp_model.specs.Prefixes.{value_of}
use Rattle.journal_bytes.specs.Bodies.{Improve}
use Rattle.journal_replay.specs.Following.{record_of_step}
use Rattle.board.specs.View.{BoardView, tag_of}
use Rattle.kept_board.proofs.Keeping.{step-grows, step-kept, fail-kept}
use Rattle.kept_board.proofs.Moving.{step-moves, fail-moves}
use Rattle.kept_board.proofs.Stepped.{offer-steps, offer-recorded, offer-record}
use Rattle.kept_board.specs.Adding.{Acknowledges, LeavesAtMost}
use Rattle.kept_board.specs.Moves.{IsMove}
use Rattle.kept_board.specs.View.{KeptView}
use Rattle.kept_board.proofs.kept.Kept.improve.Goals as goal

pub invariant_of-self-in-Ok : goal.invariant_of-self-in-Ok
invariant_of-self-in-Ok g c =
    let meaning = g.M.DpModel.meaning in
    let old = c.self.inside.board in
    let x = c.args.decisions.now in
    let value : FitsSigned w64 c.in-Some.value = search rules in
    let better = c.in-Some.ensures.better in
    let v = to_z w64 (of_z w64 c.in-Some.value) in
    let recorded : record_of_step (meaning old.numbers) old.board (StepImprove x) ≡ Some (Improve v x) = offer-recorded (meaning old.numbers) old.board x c.in-Some.value v better (to_z-of_z w64 c.in-Some.value value) in
    let going = subst (λ (k : KeptView g.row.D.Denot). IsSome k.tail → k.board.board.cause ≢ Some Journal) (sym c.self.view_is) c.requires.going in
    let new = c.improve-in-Ok.new.self in
    let tag : tag_of new ≡ tag_of old = c.improve-in-Ok.ensures.tag ∙ ap tag_of c.better_value.ensures.same in
    let is = offer-steps meaning old c.better_value.new.self new.board x c.in-Some.value c.improve-in-Ok.result c.better_value.ensures.same better c.improve-in-Ok.ensures.answer c.improve-in-Ok.ensures.step in
    step-kept g.D.Disk meaning old new tag (StepImprove x) (Improve v x) c.self.inside.made.value c.self.inside.disk c.record_improve.new.disk c.self.inside.tail c.record_improve.new.tail better.solution.solution tt recorded is
    c.self.invariant going c.record_improve.ensures.tail c.record_improve.ensures.keeps c.record_improve.ensures.faults c.record_improve.ensures.start c.in-Ok.ensures.ready c.record_improve.ensures.none c.in-Ok.ensures.acknowledged c.record_improve.ensures.any_moment

pub invariant_of-self-in-Err-Journal : goal.invariant_of-self-in-Err-Journal
invariant_of-self-in-Err-Journal g c =
    let meaning = g.M.DpModel.meaning in
    let old = c.self.inside.board in
    let x = c.args.decisions.now in
    let value : FitsSigned w64 c.in-Some.value = search rules in
    let better = c.in-Some.ensures.better in
    let v = to_z w64 (of_z w64 c.in-Some.value) in
    let recorded : record_of_step (meaning old.numbers) old.board (StepImprove x) ≡ Some (Improve v x) = offer-recorded (meaning old.numbers) old.board x c.in-Some.value v better (to_z-of_z w64 c.in-Some.value value) in
    let going = subst (λ (k : KeptView g.row.D.Denot). IsSome k.tail → k.board.board.cause ≢ Some Journal) (sym c.self.view_is) c.requires.going in
    let new = c.halt.new.self in
    let tag : tag_of new ≡ tag_of old = c.halt.ensures.tag ∙ ap tag_of c.better_value.ensures.same in
    let is : new.board ≡ halted old.board Journal = c.halt.ensures.step ∙ ap (λ (m : BoardView). halted m.board Journal) c.better_value.ensures.same in
    let failed = c.in-Err-Journal.ensures.journal (ap Err c.in-Err-Journal.field-0-is) in
    fail-kept g.D.Disk meaning old new tag (λ t m disk. g.met.D.Disk.counts_now disk t m) (after (meaning old.numbers) old.board (StepImprove x)) (Improve v x) (λ laws. step-grows (meaning old.numbers) laws old.board (StepImprove x) (Improve v x) better.solution.solution tt recorded)
    c.self.inside.made.value c.self.inside.disk c.record_improve.new.disk c.self.inside.tail c.record_improve.new.tail is
    c.self.invariant going c.in-Err-Journal.ensures.tail_err failed.0 failed.1 c.record_improve.ensures.keeps c.record_improve.ensures.faults c.record_improve.ensures.start c.record_improve.ensures.any_moment

pub returns-in-Ok-clause-moves : goal.returns-in-Ok-clause-moves
returns-in-Ok-clause-moves g c who =
    let meaning = g.M.DpModel.meaning in
    let old = c.self.inside.board in
    let x = c.args.decisions.now in
    let value : FitsSigned w64 c.in-Some.value = search rules in
    let better = c.in-Some.ensures.better in
    let v = to_z w64 (of_z w64 c.in-Some.value) in
    let recorded : record_of_step (meaning old.numbers) old.board (StepImprove x) ≡ Some (Improve v x) = offer-recorded (meaning old.numbers) old.board x c.in-Some.value v better (to_z-of_z w64 c.in-Some.value value) in
    let going = subst (λ (k : KeptView g.row.D.Denot). IsSome k.tail → k.board.board.cause ≢ Some Journal) (sym c.self.view_is) c.requires.going in
    let new = c.improve-in-Ok.new.self in
    let tag : tag_of new ≡ tag_of old = c.improve-in-Ok.ensures.tag ∙ ap tag_of c.better_value.ensures.same in
    let is = offer-steps meaning old c.better_value.new.self new.board x c.in-Some.value c.improve-in-Ok.result c.better_value.ensures.same better c.improve-in-Ok.ensures.answer c.improve-in-Ok.ensures.step in
    subst (λ (k : KeptView g.row.D.Denot). IsMove g.D.Disk meaning k (record { board = new; disk = c.record_improve.new.disk; tail = c.record_improve.new.tail; made = c.self.inside.made.value; every = c.self.inside.every }) who) c.self.view_is
    (step-moves g.D.Disk meaning old new tag c.self.inside.made.value c.self.inside.every who (StepImprove x) (Improve v x) c.self.inside.disk c.record_improve.new.disk c.self.inside.tail c.record_improve.new.tail better.solution.solution tt recorded tt is
    going c.record_improve.ensures.tail c.record_improve.ensures.keeps c.in-Ok.ensures.ready c.record_improve.ensures.none c.in-Ok.ensures.acknowledged c.record_improve.ensures.any_moment)

pub returns-in-Err-Journal-clause-moves : goal.returns-in-Err-Journal-clause-moves
returns-in-Err-Journal-clause-moves g c who =
    let meaning = g.M.DpModel.meaning in
    let old = c.self.inside.board in
    let x = c.args.decisions.now in
    let value : FitsSigned w64 c.in-Some.value = search rules in
    let better = c.in-Some.ensures.better in
    let v = to_z w64 (of_z w64 c.in-Some.value) in
    let recorded : record_of_step (meaning old.numbers) old.board (StepImprove x) ≡ Some (Improve v x) = offer-recorded (meaning old.numbers) old.board x c.in-Some.value v better (to_z-of_z w64 c.in-Some.value value) in
    let going = subst (λ (k : KeptView g.row.D.Denot). IsSome k.tail → k.board.board.cause ≢ Some Journal) (sym c.self.view_is) c.requires.going in
    let new = c.halt.new.self in
    let tag : tag_of new ≡ tag_of old = c.halt.ensures.tag ∙ ap tag_of c.better_value.ensures.same in
    let is : new.board ≡ halted old.board Journal = c.halt.ensures.step ∙ ap (λ (m : BoardView). halted m.board Journal) c.better_value.ensures.same in
    let failed = c.in-Err-Journal.ensures.journal (ap Err c.in-Err-Journal.field-0-is) in
    subst (λ (k : KeptView g.row.D.Denot). IsMove g.D.Disk meaning k (record { board = new; disk = c.record_improve.new.disk; tail = c.record_improve.new.tail; made = c.self.inside.made.value; every = c.self.inside.every }) who) c.self.view_is
    (fail-moves g.D.Disk meaning old new tag c.self.inside.made.value c.self.inside.every who (Improve v x) c.self.inside.disk c.record_improve.new.disk c.self.inside.tail c.record_improve.new.tail
    (inl (record { step = StepImprove x; of = tt; may = better.solution.solution; is = recorded })) is going c.record_improve.ensures.tail failed.0 failed.1 c.record_improve.ensures.keeps c.record_improve.ensures.any_moment)

pub returns-in-Ok-clause-acknowledged : goal.returns-in-Ok-clause-acknowledged
returns-in-Ok-clause-acknowledged g c answered some =
    let meaning = g.M.DpModel.meaning in
    let old = c.self.inside.board in
    let x = c.args.decisions.now in
    let value : FitsSigned w64 c.in-Some.value = search rules in
    let is = offer-record (meaning old.numbers) old.board x c.in-Some.value (to_z w64 (of_z w64 c.in-Some.value)) c.in-Some.ensures.better (to_z-of_z w64 c.in-Some.value value) in
    let has : IsSome c.self.inside.tail = subst (λ (k : KeptView g.row.D.Denot). IsSome k.tail) (sym c.self.view_is) some in
    subst (λ (k : KeptView g.row.D.Denot). Acknowledges g.D.Disk k.disk c.record_improve.new.disk (Improve (value_of (meaning k.board.numbers) x) x)) c.self.view_is
    (subst (Acknowledges g.D.Disk c.self.inside.disk c.record_improve.new.disk) is (c.in-Ok.ensures.acknowledged has))

pub returns-in-Ok-clause-any_moment : goal.returns-in-Ok-clause-any_moment
returns-in-Ok-clause-any_moment g c some =
    let meaning = g.M.DpModel.meaning in
    let old = c.self.inside.board in
    let x = c.args.decisions.now in
    let value : FitsSigned w64 c.in-Some.value = search rules in
    let is = offer-record (meaning old.numbers) old.board x c.in-Some.value (to_z w64 (of_z w64 c.in-Some.value)) c.in-Some.ensures.better (to_z-of_z w64 c.in-Some.value value) in
    let has : IsSome c.self.inside.tail = subst (λ (k : KeptView g.row.D.Denot). IsSome k.tail) (sym c.self.view_is) some in
    subst (λ (k : KeptView g.row.D.Denot). LeavesAtMost g.D.Disk k.disk c.record_improve.new.disk (Improve (value_of (meaning k.board.numbers) x) x)) c.self.view_is
    (subst (LeavesAtMost g.D.Disk c.self.inside.disk c.record_improve.new.disk) is (c.record_improve.ensures.any_moment has))

pub returns-in-Err-Journal-clause-any_moment : goal.returns-in-Err-Journal-clause-any_moment
returns-in-Err-Journal-clause-any_moment g c some =
    let meaning = g.M.DpModel.meaning in
    let old = c.self.inside.board in
    let x = c.args.decisions.now in
    let value : FitsSigned w64 c.in-Some.value = search rules in
    let is = offer-record (meaning old.numbers) old.board x c.in-Some.value (to_z w64 (of_z w64 c.in-Some.value)) c.in-Some.ensures.better (to_z-of_z w64 c.in-Some.value value) in
    let has : IsSome c.self.inside.tail = subst (λ (k : KeptView g.row.D.Denot). IsSome k.tail) (sym c.self.view_is) some in
    subst (λ (k : KeptView g.row.D.Denot). LeavesAtMost g.D.Disk k.disk c.record_improve.new.disk (Improve (value_of (meaning k.board.numbers) x) x)) c.self.view_is
    (subst (LeavesAtMost g.D.Disk c.self.inside.disk c.record_improve.new.disk) is (c.record_improve.ensures.any_moment has))
