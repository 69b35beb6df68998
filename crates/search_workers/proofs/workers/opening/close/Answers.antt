use denote.Param.Send.{sendable}
use Rattle.std.proofs.Crossing.{crosses}
use Rattle.kept_board.proofs.Sent.{kept_send}
use Rattle.std.proofs.Common.{arith}
use Rattle.turn.proofs.Numbers.{length_is, nothing_out}
use Rattle.turn.specs.Seats.{first_of, seats_of}
use Rattle.kept_board.specs.View.{KeptView}
use Rattle.board.specs.Moves.{out_at}
use Rattle.search_workers.proofs.Histories.{history-runs}
use Rattle.search_workers.proofs.Idle.{idle_slots, idle-later}
use Rattle.search_workers.proofs.workers.opening.close.Goals as goal

pub close-requires-clause-all : goal.close-requires-clause-all
close-requires-clause-all g c κs within = omega (arith, c.args.seats.ok.0, length_is c.args.seats.items 0 (seats_of c.args.turn) c.requires.numbers)

pub returns-clause-later : goal.returns-clause-later
returns-clause-later g c =
    let e = c.close.ensures in
    let none = nothing_out (λ (v : KeptView g.row.D.Denot) k. out_at v.board.board k) c.close.result c.args.seats.items (seats_of c.args.turn) c.requires.numbers e.out (λ k d lt. (c.requires.ready k d lt).nothing_out) e.rest in
    idle-later (g.M.DpModel.meaning (first_of c.args.turn).board.numbers) (first_of c.args.turn).board.board c.close.result.board.board
    (history-runs g.D.Disk g.M.DpModel.meaning (first_of c.args.turn) c.close.result e.history) c.requires.idle (idle_slots c.close.result.board.board none)

pub close-requires-send-V : goal.close-requires-send-V
close-requires-send-V g c κs within =
    let m = c.type_bounds.send-M in
    let y = c.type_bounds.sync-M in
    let d = c.type_bounds.send-D in
    search (sendable, crosses, kept_send) depth 40 fits 4000
