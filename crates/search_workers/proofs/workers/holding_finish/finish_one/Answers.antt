use denote.Param.Send.{sendable}
use Rattle.std.proofs.Crossing.{crosses}
use Rattle.kept_board.proofs.Sent.{kept_send}
use Rattle.std.proofs.Common.{◌∙◌, rules, ap, subst, sym}
use Rattle.turn.specs.Order.{NoLess}
use Rattle.turn.specs.Seats.{first_of, seen_of}
use Rattle.board_laws.specs.Board.{incumbent_value}
use Rattle.kept_board.specs.View.{KeptView, tag_of}
use Rattle.board.specs.Contents.{contents}
use Rattle.board.specs.Moves.{out_at}
use Rattle.search_workers.proofs.Stopping.{stopped-here}
use Rattle.search_workers.specs.FinishLater.{MayFinishLater}
use Rattle.search_workers.proofs.LaterKept.{later-at}
use Rattle.search_workers.proofs.Moves.{still-no-less}
use Rattle.search_workers.proofs.workers.holding_finish.finish_one.Goals as goal

pub returns-clause-no_less : goal.returns-clause-no_less
returns-clause-no_less g c =
    let seen = seen_of c.args.seat.now in
    let before = c.value.result.now in
    let less = subst (λ (v : KeptView g.row.D.Denot). NoLess seen (incumbent_value v.board.board)) (sym c.value.ensures.now) c.hold-guard.ensures.seen in
    subst (NoLess seen) (search rules) (still-no-less g.D.Disk g.M.DpModel.meaning before c.finish-finished.new.kept c.number-who.result seen less c.finish-finished.ensures.moves)

pub finish-finished-requires-clause-may : goal.finish-finished-requires-clause-may
finish-finished-requires-clause-may g c κs within =
    let h = c.hold-guard.ensures in
    let cs = contents c.args.subs.now.items in
    let who = c.number-who.result in
    subst (λ (v : KeptView g.row.D.Denot). MayFinishLater (g.M.DpModel.meaning v.board.numbers) v.board.board.settings (out_at v.board.board who) (incumbent_value v.board.board) c.args.threshold cs) (sym c.value.ensures.now)
    (later-at g.M.DpModel.meaning (first_of c.args.turn.now) c.hold-guard.result.value who c.args.seat.now.number _ _ c.args.threshold cs c.requires.may h.tag h.out h.seen c.number-who.ensures)

pub hold-guard-requires-send-V : goal.hold-guard-requires-send-V
hold-guard-requires-send-V g c κs within =
    let m = c.type_bounds.send-M in
    let y = c.type_bounds.sync-M in
    let d = c.type_bounds.send-D in
    search (sendable, crosses, kept_send) depth 40 fits 4000

pub value-requires-send-V : goal.value-requires-send-V
value-requires-send-V g c κs within =
    let m = c.type_bounds.send-M in
    let y = c.type_bounds.sync-M in
    let d = c.type_bounds.send-D in
    search (sendable, crosses, kept_send) depth 40 fits 4000

pub leave-requires-send-V : goal.leave-requires-send-V
leave-requires-send-V g c κs within =
    let m = c.type_bounds.send-M in
    let y = c.type_bounds.sync-M in
    let d = c.type_bounds.send-D in
    search (sendable, crosses, kept_send) depth 40 fits 4000

pub returns-clause-why : goal.returns-clause-why
returns-clause-why g c =
    let less = subst (λ (v : KeptView g.row.D.Denot). NoLess (seen_of c.args.seat.now) (incumbent_value v.board.board)) (sym c.value.ensures.now) c.hold-guard.ensures.seen in
    stopped-here g.D.Disk g.M.DpModel.meaning c.args.turn.now c.args.seat.now _ c.value.result.now c.finish-finished.new.kept c.number-who.result (search rules) (ap tag_of c.value.ensures.now ∙ c.hold-guard.ensures.tag) c.finish-finished.ensures.moves (search rules) (search rules) (search rules)
    c.finish-finished.result less (search rules) c.finish-finished.ensures.why
