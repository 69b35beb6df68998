use denote.Param.Send.{sendable}
use Rattle.std.proofs.Crossing.{crosses}
use Rattle.kept_board.proofs.Sent.{kept_send}
use Rattle.tests_turn.proofs.boards.incumbent_found.Goals as goal

pub hold-guard-requires-send-V : goal.hold-guard-requires-send-V
hold-guard-requires-send-V g c κs within =
    let m = c.type_bounds.send-M in
    let y = c.type_bounds.sync-M in
    let d = c.type_bounds.send-D in
    search (sendable, crosses, kept_send) depth 40 fits 4000

pub value-requires-send-V : goal.value-requires-send-V
value-requires-send-V g c κs within =
    let m = c.type_bounds.send-M in
    let y = c.type_bounds.sync-M in
    let d = c.type_bounds.send-D in
    search (sendable, crosses, kept_send) depth 40 fits 4000

pub leave-requires-send-V : goal.leave-requires-send-V
leave-requires-send-V g c κs within =
    let m = c.type_bounds.send-M in
    let y = c.type_bounds.sync-M in
    let d = c.type_bounds.send-D in
    search (sendable, crosses, kept_send) depth 40 fits 4000
