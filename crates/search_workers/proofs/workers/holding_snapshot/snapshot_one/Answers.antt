use denote.Param.Send.{sendable}
use Rattle.std.proofs.Crossing.{crosses}
use Rattle.kept_board.proofs.Sent.{kept_send}
use Rattle.std.proofs.Common.{◌∙◌, rules, ap, subst, sym}
use Rattle.turn.specs.Order.{NoLess}
use Rattle.turn.specs.Seats.{seen_of}
use Rattle.board_laws.specs.Board.{incumbent_value}
use Rattle.kept_board.specs.View.{KeptView, tag_of}
use Rattle.search_workers.proofs.Stopping.{found-same}
use Rattle.search_workers.proofs.Moves.{may_leave, still-no-less}
use Rattle.search_workers.proofs.workers.holding_snapshot.snapshot_one.Goals as goal

pub returns-clause-no_less : goal.returns-clause-no_less
returns-clause-no_less g c =
    let seen = seen_of c.args.seat.now in
    let before = c.value.result.now in
    let less = subst (λ (v : KeptView g.row.D.Denot). NoLess seen (incumbent_value v.board.board)) (sym c.value.ensures.now) c.hold-guard.ensures.seen in
    subst (NoLess seen) (search rules) (still-no-less g.D.Disk g.M.DpModel.meaning before c.snapshot.new.kept c.args.seat.now.number seen less (c.snapshot.ensures.moves c.args.seat.now.number))

pub returns-clause-same : goal.returns-clause-same
returns-clause-same g c =
    found-same g.D.Disk g.M.DpModel.meaning c.args.turn.now c.args.seat.now _ c.value.result.now c.snapshot.new.kept c.args.seat.now.number (search rules) (ap tag_of c.value.ensures.now ∙ c.hold-guard.ensures.tag) (c.snapshot.ensures.moves c.args.seat.now.number)
    (search rules) (search rules) (search rules) c.snapshot.ensures.same

pub leave-requires-clause-moves : goal.leave-requires-clause-moves
leave-requires-clause-moves g c κs within =
    let who = c.hold-guard.result.seat.now.number in
    may_leave g.D.Disk g.M.DpModel.meaning c.hold-guard.result.found.value c.value.result.now c.snapshot.new.kept who who (search rules) (search rules) (c.snapshot.ensures.moves who)

pub hold-guard-requires-send-V : goal.hold-guard-requires-send-V
hold-guard-requires-send-V g c κs within =
    let m = c.type_bounds.send-M in
    let y = c.type_bounds.sync-M in
    let d = c.type_bounds.send-D in
    search (sendable, crosses, kept_send) depth 40 fits 4000

pub value-requires-send-V : goal.value-requires-send-V
value-requires-send-V g c κs within =
    let m = c.type_bounds.send-M in
    let y = c.type_bounds.sync-M in
    let d = c.type_bounds.send-D in
    search (sendable, crosses, kept_send) depth 40 fits 4000

pub leave-requires-send-V : goal.leave-requires-send-V
leave-requires-send-V g c κs within =
    let m = c.type_bounds.send-M in
    let y = c.type_bounds.sync-M in
    let d = c.type_bounds.send-D in
    search (sendable, crosses, kept_send) depth 40 fits 4000
