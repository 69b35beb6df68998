use denote.Param.Send.{sendable}
use Rattle.std.proofs.Crossing.{crosses}
use Rattle.kept_board.proofs.Sent.{kept_send}
use Rattle.std.proofs.Common.{◌≡◌, ◌∙◌, rules, ap, subst, sym}
use Rattle.turn.specs.Order.{NoLess}
use Rattle.turn.specs.Seats.{first_of, seen_of}
use Rattle.board_laws.specs.Board.{incumbent_value, reach_of}
use Rattle.kept_board.specs.View.{KeptView, tag_of}
use Rattle.search_workers.proofs.Stopping.{over-then, left-here, nothing-open, ended-here}
use Rattle.search_workers.proofs.Moves.{still-no-less, reach-left}
use Rattle.search_workers.proofs.workers.holding_take.take_one.Goals as goal

pub returns-clause-no_less : goal.returns-clause-no_less
returns-clause-no_less g c =
    let seen = seen_of c.args.seat.now in
    let before = c.value.result.now in
    let less = subst (λ (v : KeptView g.row.D.Denot). NoLess seen (incumbent_value v.board.board)) (sym c.value.ensures.now) c.hold-guard.ensures.seen in
    subst (NoLess seen) (search rules) (still-no-less g.D.Disk g.M.DpModel.meaning before c.take-asked.new.kept c.number-who.result seen less c.take-asked.ensures.moves)

pub returns-clause-reach : goal.returns-clause-reach
returns-clause-reach g c =
    let first = first_of c.args.turn.now in
    let tag = ap tag_of c.value.ensures.now ∙ c.hold-guard.ensures.tag in
    let left = reach-left g.D.Disk g.M.DpModel.meaning first c.value.result.now c.take-asked.new.kept c.number-who.result tag c.take-asked.ensures.moves in
    subst (λ seen. c.take-asked.result.reach ≡ reach_of first.board.board.settings.within seen) (search rules) (c.take-asked.ensures.reach ∙ left)

pub hold-guard-requires-send-V : goal.hold-guard-requires-send-V
hold-guard-requires-send-V g c κs within =
    let m = c.type_bounds.send-M in
    let y = c.type_bounds.sync-M in
    let d = c.type_bounds.send-D in
    search (sendable, crosses, kept_send) depth 40 fits 4000

pub value-requires-send-V : goal.value-requires-send-V
value-requires-send-V g c κs within =
    let m = c.type_bounds.send-M in
    let y = c.type_bounds.sync-M in
    let d = c.type_bounds.send-D in
    search (sendable, crosses, kept_send) depth 40 fits 4000

pub leave-requires-send-V : goal.leave-requires-send-V
leave-requires-send-V g c κs within =
    let m = c.type_bounds.send-M in
    let y = c.type_bounds.sync-M in
    let d = c.type_bounds.send-D in
    search (sendable, crosses, kept_send) depth 40 fits 4000

pub returns-clause-left : goal.returns-clause-left
returns-clause-left g c = left-here g.D.Disk g.M.DpModel.meaning c.args.turn.now c.args.seat.now _ c.value.result.now c.take-asked.new.kept c.number-who.result (search rules) (ap tag_of c.value.ensures.now ∙ c.hold-guard.ensures.tag) c.take-asked.ensures.moves (search rules) (search rules) (search rules)

pub returns-clause-ended : goal.returns-clause-ended
returns-clause-ended g c =
    over-then c.take-asked.result.taken (ended-here g.D.Disk g.M.DpModel.meaning c.args.turn.now c.args.seat.now _ c.value.result.now c.take-asked.new.kept c.number-who.result (search rules) (ap tag_of c.value.ensures.now ∙ c.hold-guard.ensures.tag) c.take-asked.ensures.moves (search rules) (search rules) (search rules))
    c.take-asked.ensures.ended

pub returns-clause-waits : goal.returns-clause-waits
returns-clause-waits g c = λ waits.
    nothing-open g.D.Disk g.M.DpModel.meaning c.args.turn.now c.args.seat.now _ c.value.result.now c.take-asked.new.kept c.number-who.result (search rules) (ap tag_of c.value.ensures.now ∙ c.hold-guard.ensures.tag) c.take-asked.ensures.moves (search rules) (search rules) (search rules)
    (c.take-asked.ensures.waits waits)
