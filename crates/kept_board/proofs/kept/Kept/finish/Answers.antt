use Rattle.std.proofs.Common.{◌≡◌, ◌≢◌, inl, ◌∙◌, refl, sym, ap, subst, Some, IsSome, Err}
use Rattle.board_laws.specs.declared.cause.Cause.TheVariants.{Journal}
use Rattle.board_laws.specs.Fates.{fates_on}
use Rattle.board_laws.specs.Finishing.{MayFinish}
use Rattle.board_laws.specs.Runs.{after}
use Rattle.board_laws.specs.Runs.Step.{Finish as StepFinish}
use Rattle.board_laws.specs.Steps.{halted}
use Rattle.journal_bytes.specs.Bodies.{RecordView, Finish}
use Rattle.journal_replay.specs.Following.{record_of_step, recorded_children, finish_record}
use Rattle.board.specs.Contents.{contents}
use Rattle.board.specs.View.{tag_of}
use Rattle.kept_board.proofs.Keeping.{step-grows, step-kept, fail-kept}
use Rattle.kept_board.proofs.Moving.{step-moves, fail-moves}
use Rattle.kept_board.proofs.Stepped.{finish-steps, finish-recorded}
use Rattle.kept_board.specs.Adding.{Acknowledges, LeavesAtMost}
use Rattle.kept_board.specs.Moves.{IsMove}
use Rattle.kept_board.specs.View.{KeptView}
use Rattle.kept_board.proofs.kept.Kept.finish.Goals as goal

pub invariant_of-self : goal.invariant_of-self
invariant_of-self g c =
    let meaning = g.M.DpModel.meaning in
    let old = c.self.inside.board in
    let cs = contents c.args.subs.now.items in
    let step = StepFinish c.args.who c.args.threshold cs in
    let may : MayFinish (meaning old.numbers) old.board c.args.who c.args.threshold cs (fates_on (meaning old.numbers) old.board cs) = subst (λ (k : KeptView g.row.D.Denot). MayFinish (meaning k.board.numbers) k.board.board c.args.who c.args.threshold cs (fates_on (meaning k.board.numbers) k.board.board cs)) (sym c.self.view_is) c.requires.may in
    let r = Finish may.parent.ticket (recorded_children cs (fates_on (meaning old.numbers) old.board cs)) in
    let recorded : record_of_step (meaning old.numbers) old.board step ≡ Some r = finish-recorded (meaning old.numbers) old.board c.args.who may.parent c.args.threshold cs may.full in
    let going = subst (λ (k : KeptView g.row.D.Denot). IsSome k.tail → k.board.board.cause ≢ Some Journal) (sym c.self.view_is) c.requires.going in
    let wrote = c.write_finish.ensures in
    let subs = c.as_slice.ensures.value in
    let new = c.finish.new.self in
    let tag : tag_of new ≡ tag_of old = c.finish.ensures.tag ∙ wrote.tag in
    let is = finish-steps meaning old c.write_finish.new.board new.board c.args.who c.args.threshold cs wrote.tag wrote.board c.finish.ensures.step in
    step-kept g.D.Disk meaning old new tag step r c.self.inside.made.value c.self.inside.disk c.write_finish.new.disk c.self.inside.tail c.write_finish.new.tail may tt recorded is
    c.self.invariant going wrote.tail wrote.keeps wrote.faults wrote.start c.in-Ok.ensures.ready wrote.none (λ some. subst (λ l. (q : RecordView) → record_of_step (meaning old.numbers) old.board (StepFinish c.args.who c.args.threshold (contents l)) ≡ Some q → Acknowledges g.D.Disk c.self.inside.disk c.write_finish.new.disk q) subs (c.in-Ok.ensures.acknowledged some) r recorded) (λ some. subst (λ l. (q : RecordView) → record_of_step (meaning old.numbers) old.board (StepFinish c.args.who c.args.threshold (contents l)) ≡ Some q → LeavesAtMost g.D.Disk c.self.inside.disk c.write_finish.new.disk q) subs (wrote.any_moment some) r recorded)

pub invariant_of-self-in-Err-Journal : goal.invariant_of-self-in-Err-Journal
invariant_of-self-in-Err-Journal g c =
    let meaning = g.M.DpModel.meaning in
    let old = c.self.inside.board in
    let cs = contents c.args.subs.now.items in
    let step = StepFinish c.args.who c.args.threshold cs in
    let may : MayFinish (meaning old.numbers) old.board c.args.who c.args.threshold cs (fates_on (meaning old.numbers) old.board cs) = subst (λ (k : KeptView g.row.D.Denot). MayFinish (meaning k.board.numbers) k.board.board c.args.who c.args.threshold cs (fates_on (meaning k.board.numbers) k.board.board cs)) (sym c.self.view_is) c.requires.may in
    let r = Finish may.parent.ticket (recorded_children cs (fates_on (meaning old.numbers) old.board cs)) in
    let recorded : record_of_step (meaning old.numbers) old.board step ≡ Some r = finish-recorded (meaning old.numbers) old.board c.args.who may.parent c.args.threshold cs may.full in
    let going = subst (λ (k : KeptView g.row.D.Denot). IsSome k.tail → k.board.board.cause ≢ Some Journal) (sym c.self.view_is) c.requires.going in
    let wrote = c.write_finish.ensures in
    let subs = c.as_slice.ensures.value in
    let new = c.halt.new.self in
    let tag : tag_of new ≡ tag_of old = c.halt.ensures.tag ∙ wrote.tag in
    let is : new.board ≡ halted old.board Journal = c.halt.ensures.step ∙ ap (λ b. halted b Journal) wrote.board in
    let failed = c.in-Err-Journal.ensures.journal (ap Err c.in-Err-Journal.field-0-is) in
    fail-kept g.D.Disk meaning old new tag (λ t m disk. g.met.D.Disk.counts_now disk t m) (after (meaning old.numbers) old.board step) r (λ laws. step-grows (meaning old.numbers) laws old.board step r may tt recorded)
    c.self.inside.made.value c.self.inside.disk c.write_finish.new.disk c.self.inside.tail c.write_finish.new.tail is
    c.self.invariant going c.in-Err-Journal.ensures.tail_err failed.0 failed.1 wrote.keeps wrote.faults wrote.start (λ some. subst (λ l. (q : RecordView) → record_of_step (meaning old.numbers) old.board (StepFinish c.args.who c.args.threshold (contents l)) ≡ Some q → LeavesAtMost g.D.Disk c.self.inside.disk c.write_finish.new.disk q) subs (wrote.any_moment some) r recorded)

pub returns-in-Ok-clause-moves : goal.returns-in-Ok-clause-moves
returns-in-Ok-clause-moves g c =
    let meaning = g.M.DpModel.meaning in
    let old = c.self.inside.board in
    let cs = contents c.args.subs.now.items in
    let step = StepFinish c.args.who c.args.threshold cs in
    let may : MayFinish (meaning old.numbers) old.board c.args.who c.args.threshold cs (fates_on (meaning old.numbers) old.board cs) = subst (λ (k : KeptView g.row.D.Denot). MayFinish (meaning k.board.numbers) k.board.board c.args.who c.args.threshold cs (fates_on (meaning k.board.numbers) k.board.board cs)) (sym c.self.view_is) c.requires.may in
    let r = Finish may.parent.ticket (recorded_children cs (fates_on (meaning old.numbers) old.board cs)) in
    let recorded : record_of_step (meaning old.numbers) old.board step ≡ Some r = finish-recorded (meaning old.numbers) old.board c.args.who may.parent c.args.threshold cs may.full in
    let going = subst (λ (k : KeptView g.row.D.Denot). IsSome k.tail → k.board.board.cause ≢ Some Journal) (sym c.self.view_is) c.requires.going in
    let wrote = c.write_finish.ensures in
    let subs = c.as_slice.ensures.value in
    let new = c.finish.new.self in
    let tag : tag_of new ≡ tag_of old = c.finish.ensures.tag ∙ wrote.tag in
    let is = finish-steps meaning old c.write_finish.new.board new.board c.args.who c.args.threshold cs wrote.tag wrote.board c.finish.ensures.step in
    subst (λ (k : KeptView g.row.D.Denot). IsMove g.D.Disk meaning k (record { board = new; disk = c.write_finish.new.disk; tail = c.write_finish.new.tail; made = c.self.inside.made.value; every = c.self.inside.every }) c.args.who) c.self.view_is
    (step-moves g.D.Disk meaning old new tag c.self.inside.made.value c.self.inside.every c.args.who step r c.self.inside.disk c.write_finish.new.disk c.self.inside.tail c.write_finish.new.tail may tt recorded refl is
    going wrote.tail wrote.keeps c.in-Ok.ensures.ready wrote.none (λ some. subst (λ l. (q : RecordView) → record_of_step (meaning old.numbers) old.board (StepFinish c.args.who c.args.threshold (contents l)) ≡ Some q → Acknowledges g.D.Disk c.self.inside.disk c.write_finish.new.disk q) subs (c.in-Ok.ensures.acknowledged some) r recorded) (λ some. subst (λ l. (q : RecordView) → record_of_step (meaning old.numbers) old.board (StepFinish c.args.who c.args.threshold (contents l)) ≡ Some q → LeavesAtMost g.D.Disk c.self.inside.disk c.write_finish.new.disk q) subs (wrote.any_moment some) r recorded))

pub returns-in-Err-Journal-clause-moves : goal.returns-in-Err-Journal-clause-moves
returns-in-Err-Journal-clause-moves g c =
    let meaning = g.M.DpModel.meaning in
    let old = c.self.inside.board in
    let cs = contents c.args.subs.now.items in
    let step = StepFinish c.args.who c.args.threshold cs in
    let may : MayFinish (meaning old.numbers) old.board c.args.who c.args.threshold cs (fates_on (meaning old.numbers) old.board cs) = subst (λ (k : KeptView g.row.D.Denot). MayFinish (meaning k.board.numbers) k.board.board c.args.who c.args.threshold cs (fates_on (meaning k.board.numbers) k.board.board cs)) (sym c.self.view_is) c.requires.may in
    let r = Finish may.parent.ticket (recorded_children cs (fates_on (meaning old.numbers) old.board cs)) in
    let recorded : record_of_step (meaning old.numbers) old.board step ≡ Some r = finish-recorded (meaning old.numbers) old.board c.args.who may.parent c.args.threshold cs may.full in
    let going = subst (λ (k : KeptView g.row.D.Denot). IsSome k.tail → k.board.board.cause ≢ Some Journal) (sym c.self.view_is) c.requires.going in
    let wrote = c.write_finish.ensures in
    let subs = c.as_slice.ensures.value in
    let new = c.halt.new.self in
    let tag : tag_of new ≡ tag_of old = c.halt.ensures.tag ∙ wrote.tag in
    let is : new.board ≡ halted old.board Journal = c.halt.ensures.step ∙ ap (λ b. halted b Journal) wrote.board in
    let failed = c.in-Err-Journal.ensures.journal (ap Err c.in-Err-Journal.field-0-is) in
    subst (λ (k : KeptView g.row.D.Denot). IsMove g.D.Disk meaning k (record { board = new; disk = c.write_finish.new.disk; tail = c.write_finish.new.tail; made = c.self.inside.made.value; every = c.self.inside.every }) c.args.who) c.self.view_is
    (fail-moves g.D.Disk meaning old new tag c.self.inside.made.value c.self.inside.every c.args.who r c.self.inside.disk c.write_finish.new.disk c.self.inside.tail c.write_finish.new.tail
    (inl (record { step = step; of = refl; may = may; is = recorded })) is going wrote.tail failed.0 failed.1 wrote.keeps (λ some. subst (λ l. (q : RecordView) → record_of_step (meaning old.numbers) old.board (StepFinish c.args.who c.args.threshold (contents l)) ≡ Some q → LeavesAtMost g.D.Disk c.self.inside.disk c.write_finish.new.disk q) subs (wrote.any_moment some) r recorded))

pub returns-in-Ok-clause-acknowledged : goal.returns-in-Ok-clause-acknowledged
returns-in-Ok-clause-acknowledged g c =
    let meaning = g.M.DpModel.meaning in
    let old = c.self.inside.board in
    subst (λ (k : KeptView g.row.D.Denot). IsSome k.tail → (r : RecordView) → finish_record (meaning k.board.numbers) k.board.board c.args.who (contents c.args.subs.now.items) ≡ Some r → Acknowledges g.D.Disk k.disk c.write_finish.new.disk r) c.self.view_is
    (λ some. subst (λ l. (r : RecordView) → finish_record (meaning old.numbers) old.board c.args.who (contents l) ≡ Some r → Acknowledges g.D.Disk c.self.inside.disk c.write_finish.new.disk r) c.as_slice.ensures.value (c.in-Ok.ensures.acknowledged some))

pub returns-in-Ok-clause-any_moment : goal.returns-in-Ok-clause-any_moment
returns-in-Ok-clause-any_moment g c =
    let meaning = g.M.DpModel.meaning in
    let old = c.self.inside.board in
    subst (λ (k : KeptView g.row.D.Denot). IsSome k.tail → (r : RecordView) → finish_record (meaning k.board.numbers) k.board.board c.args.who (contents c.args.subs.now.items) ≡ Some r → LeavesAtMost g.D.Disk k.disk c.write_finish.new.disk r) c.self.view_is
    (λ some. subst (λ l. (r : RecordView) → finish_record (meaning old.numbers) old.board c.args.who (contents l) ≡ Some r → LeavesAtMost g.D.Disk c.self.inside.disk c.write_finish.new.disk r) c.as_slice.ensures.value (c.write_finish.ensures.any_moment some))

pub returns-in-Err-Journal-clause-any_moment : goal.returns-in-Err-Journal-clause-any_moment
returns-in-Err-Journal-clause-any_moment g c =
    let meaning = g.M.DpModel.meaning in
    let old = c.self.inside.board in
    subst (λ (k : KeptView g.row.D.Denot). IsSome k.tail → (r : RecordView) → finish_record (meaning k.board.numbers) k.board.board c.args.who (contents c.args.subs.now.items) ≡ Some r → LeavesAtMost g.D.Disk k.disk c.write_finish.new.disk r) c.self.view_is
    (λ some. subst (λ l. (r : RecordView) → finish_record (meaning old.numbers) old.board c.args.who (contents l) ≡ Some r → LeavesAtMost g.D.Disk c.self.inside.disk c.write_finish.new.disk r) c.as_slice.ensures.value (c.write_finish.ensures.any_moment some))
