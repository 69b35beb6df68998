use Rattle.std.proofs.Common.{◌≡◌, ◌∙◌, sym, subst, Some, IsSome}
use Rattle.journal_bytes.specs.Bodies.{RecordView, Finish}
use Rattle.journal_bytes.specs.Spelling.{HasSpelling}
use Rattle.journal_replay.specs.Following.{finish_record, recorded_children}
use Rattle.board.specs.Contents.{contents}
use Rattle.kept_board.proofs.Spelled.{finish-spelled, ticket-is, record-is, on_ok}
use Rattle.kept_board.specs.Adding.{LeavesAtMost, Acknowledges}
use Rattle.kept_board.proofs.finishing.write_finish.Goals as goal

pub record_finish-requires-clause-spelling : goal.record_finish-requires-clause-spelling
record_finish-requires-clause-spelling g c =
    let dp = g.M.DpModel.meaning c.args.board.now.numbers in
    let b = c.args.board.now.board in
    let cs = contents c.args.subs.now in
    let may = c.requires.may.1 in
    let ticket = ticket-is c.decide.new.board.board b c.args.who may.parent c.in-Some.ticket c.slot_ticket.result c.decide.ensures.board may.full c.slot_ticket.ensures c.in-Some.is in
    let fates = c.as_slice.ensures.value ∙ c.in_ok-decide.ensures.fates in
    subst (λ t. HasSpelling (Finish t (recorded_children cs c.as_slice.result.now))) (sym ticket)
    (subst (λ fs. HasSpelling (Finish may.parent.ticket (recorded_children cs fs))) (sym fates) (finish-spelled dp b c.args.who may.parent cs c.facts.ensures.kept may.full c.requires.size))

pub returns-clause-acknowledged : goal.returns-clause-acknowledged
returns-clause-acknowledged g c =
    let dp = g.M.DpModel.meaning c.args.board.now.numbers in
    let b = c.args.board.now.board in
    let cs = contents c.args.subs.now in
    let may = c.requires.may.1 in
    let ticket = ticket-is c.decide.new.board.board b c.args.who may.parent c.in-Some.ticket c.slot_ticket.result c.decide.ensures.board may.full c.slot_ticket.ensures c.in-Some.is in
    let fates = c.as_slice.ensures.value ∙ c.in_ok-decide.ensures.fates in
    on_ok c.record_finish.result
    (IsSome c.args.tail.now → Acknowledges g.D.Disk c.args.disk.now c.record_finish.new.disk (Finish c.in-Some.ticket (recorded_children cs c.as_slice.result.now)))
    (IsSome c.args.tail.now → (r : RecordView) → finish_record dp b c.args.who cs ≡ Some r → Acknowledges g.D.Disk c.args.disk.now c.record_finish.new.disk r)
    c.record_finish.ensures.acknowledged
    (λ done some r is. subst (Acknowledges g.D.Disk c.args.disk.now c.record_finish.new.disk) (record-is dp b c.args.who may.parent cs c.as_slice.result.now c.in-Some.ticket r may.full ticket fates is) (done some))

pub returns-clause-any_moment : goal.returns-clause-any_moment
returns-clause-any_moment g c some r is =
    let dp = g.M.DpModel.meaning c.args.board.now.numbers in
    let b = c.args.board.now.board in
    let cs = contents c.args.subs.now in
    let may = c.requires.may.1 in
    let ticket = ticket-is c.decide.new.board.board b c.args.who may.parent c.in-Some.ticket c.slot_ticket.result c.decide.ensures.board may.full c.slot_ticket.ensures c.in-Some.is in
    let fates = c.as_slice.ensures.value ∙ c.in_ok-decide.ensures.fates in
    subst (LeavesAtMost g.D.Disk c.args.disk.now c.record_finish.new.disk) (record-is dp b c.args.who may.parent cs c.as_slice.result.now c.in-Some.ticket r may.full ticket fates is) (c.record_finish.ensures.any_moment some)
