use denote.Param.Send.{sendable}
use Rattle.std.proofs.Crossing.{crosses}
use Rattle.kept_board.proofs.Sent.{kept_send}
use Rattle.std.proofs.Common.{ap, ◌∙◌}
use Rattle.kept_board.specs.View.{KeptView}
use Rattle.search_workers.proofs.Idle.{nothing_at, ready}
use Rattle.search_workers.proofs.workers.opening.open.Goals as goal

pub new-requires-clause-home : goal.new-requires-clause-home
new-requires-clause-home g c κs within = nothing_at c.args.kept.board.board c.requires.idle

pub returns-in-Ok-clause-ready : goal.returns-in-Ok-clause-ready
returns-in-Ok-clause-ready g c =
    ready c.in-Ok.turn c.in-Ok.seats.items c.args.workers c.in-Ok.ensures.seats c.in-Ok.ensures.numbers
    (ap (λ (v : KeptView g.row.D.Denot). v.board.board.settings.workers) c.in-Ok.ensures.first ∙ c.requires.workers)

pub new-requires-send-V : goal.new-requires-send-V
new-requires-send-V g c κs within =
    let m = c.type_bounds.send-M in
    let y = c.type_bounds.sync-M in
    let d = c.type_bounds.send-D in
    search (sendable, crosses, kept_send) depth 40 fits 4000
