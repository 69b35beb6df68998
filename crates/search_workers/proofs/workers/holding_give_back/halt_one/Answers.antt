use denote.Param.Send.{sendable}
use Rattle.std.proofs.Crossing.{crosses}
use Rattle.kept_board.proofs.Sent.{kept_send}
use Rattle.std.proofs.Common.{rules, inr}
use Rattle.search_workers.proofs.Moves.{may_leave}
use Rattle.search_workers.proofs.workers.holding_give_back.halt_one.Goals as goal

pub leave-requires-clause-moves : goal.leave-requires-clause-moves
leave-requires-clause-moves g c κs within =
    let who = c.hold-guard.result.seat.now.number in
    may_leave g.D.Disk g.M.DpModel.meaning c.hold-guard.result.found.value c.value.result.now c.halt_memory.new.self who who (search rules) (search rules) (inr (c.halt_memory.ensures.moves who))

pub hold-guard-requires-send-V : goal.hold-guard-requires-send-V
hold-guard-requires-send-V g c κs within =
    let m = c.type_bounds.send-M in
    let y = c.type_bounds.sync-M in
    let d = c.type_bounds.send-D in
    search (sendable, crosses, kept_send) depth 40 fits 4000

pub value-requires-send-V : goal.value-requires-send-V
value-requires-send-V g c κs within =
    let m = c.type_bounds.send-M in
    let y = c.type_bounds.sync-M in
    let d = c.type_bounds.send-D in
    search (sendable, crosses, kept_send) depth 40 fits 4000

pub leave-requires-send-V : goal.leave-requires-send-V
leave-requires-send-V g c κs within =
    let m = c.type_bounds.send-M in
    let y = c.type_bounds.sync-M in
    let d = c.type_bounds.send-D in
    search (sendable, crosses, kept_send) depth 40 fits 4000
