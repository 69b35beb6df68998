use denote.Param.Send.{sendable}
use Rattle.std.proofs.Crossing.{crosses}
use Rattle.kept_board.proofs.Sent.{kept_send}
use Rattle.std.proofs.Common.{◌≡◌, ◌∙◌, rules, ap, subst, sym}
use Rattle.turn.specs.Order.{NoLess}
use Rattle.turn.specs.Seats.{first_of, seen_of}
use Rattle.board_laws.specs.Board.{incumbent_value, reach_of}
use Rattle.dp_model.specs.Numbers.{OptionAtMost}
use Rattle.kept_board.specs.View.{KeptView, tag_of}
use Rattle.search_workers.proofs.Stopping.{left-here, stopped-here}
use Rattle.search_workers.proofs.Moves.{still-no-less, reach-left}
use Rattle.search_workers.proofs.Refusing.{on_ok, ok_then}
use Rattle.search_workers.proofs.workers.holding_improve.improve_one.Goals as goal

pub returns-clause-no_less : goal.returns-clause-no_less
returns-clause-no_less g c =
    let seen = seen_of c.args.seat.now in
    let before = c.value.result.now in
    let less = subst (λ (v : KeptView g.row.D.Denot). NoLess seen (incumbent_value v.board.board)) (sym c.value.ensures.now) c.hold-guard.ensures.seen in
    subst (NoLess seen) (search rules) (still-no-less g.D.Disk g.M.DpModel.meaning before c.improve-reach.new.kept c.number-who.result seen less c.improve-reach.ensures.moves)

pub returns-clause-reach : goal.returns-clause-reach
returns-clause-reach g c =
    let first = first_of c.args.turn.now in
    let tag = ap tag_of c.value.ensures.now ∙ c.hold-guard.ensures.tag in
    let left = reach-left g.D.Disk g.M.DpModel.meaning first c.value.result.now c.improve-reach.new.kept c.number-who.result tag c.improve-reach.ensures.moves in
    ok_then c.improve-reach.result (λ r is. subst (λ seen. r ≡ reach_of first.board.board.settings.within seen) (search rules) (is ∙ left)) c.improve-reach.ensures.reach

pub returns-clause-above : goal.returns-clause-above
returns-clause-above g c =
    let first = first_of c.args.turn.now in
    let now = c.improve-reach.new.kept in
    let tag = ap tag_of c.value.ensures.now ∙ c.hold-guard.ensures.tag in
    let left = reach-left g.D.Disk g.M.DpModel.meaning first c.value.result.now now c.number-who.result tag c.improve-reach.ensures.moves in
    on_ok c.improve-reach.result
    (λ above. subst (λ seen. OptionAtMost seen (reach_of first.board.board.settings.within seen)) (search rules) (subst (OptionAtMost (incumbent_value now.board.board)) left above))
    c.improve-reach.ensures.above

pub hold-guard-requires-send-V : goal.hold-guard-requires-send-V
hold-guard-requires-send-V g c κs within =
    let m = c.type_bounds.send-M in
    let y = c.type_bounds.sync-M in
    let d = c.type_bounds.send-D in
    search (sendable, crosses, kept_send) depth 40 fits 4000

pub value-requires-send-V : goal.value-requires-send-V
value-requires-send-V g c κs within =
    let m = c.type_bounds.send-M in
    let y = c.type_bounds.sync-M in
    let d = c.type_bounds.send-D in
    search (sendable, crosses, kept_send) depth 40 fits 4000

pub leave-requires-send-V : goal.leave-requires-send-V
leave-requires-send-V g c κs within =
    let m = c.type_bounds.send-M in
    let y = c.type_bounds.sync-M in
    let d = c.type_bounds.send-D in
    search (sendable, crosses, kept_send) depth 40 fits 4000

pub returns-clause-left : goal.returns-clause-left
returns-clause-left g c = left-here g.D.Disk g.M.DpModel.meaning c.args.turn.now c.args.seat.now _ c.value.result.now c.improve-reach.new.kept c.number-who.result (search rules) (ap tag_of c.value.ensures.now ∙ c.hold-guard.ensures.tag) c.improve-reach.ensures.moves (search rules) (search rules) (search rules)

pub returns-clause-why : goal.returns-clause-why
returns-clause-why g c =
    let less = subst (λ (v : KeptView g.row.D.Denot). NoLess (seen_of c.args.seat.now) (incumbent_value v.board.board)) (sym c.value.ensures.now) c.hold-guard.ensures.seen in
    stopped-here g.D.Disk g.M.DpModel.meaning c.args.turn.now c.args.seat.now _ c.value.result.now c.improve-reach.new.kept c.number-who.result (search rules) (ap tag_of c.value.ensures.now ∙ c.hold-guard.ensures.tag) c.improve-reach.ensures.moves (search rules) (search rules) (search rules)
    c.improve-reach.result less (search rules) c.improve-reach.ensures.why
