use denote.Param.Send.{sendable}
use Rattle.std.proofs.Crossing.{crosses}
use Rattle.kept_board.proofs.Sent.{kept_send}
use Rattle.std.proofs.Common.{⊎_elim, subst}
use Rattle.board_laws.specs.declared.taken.Taken.{Taken}
use Rattle.search_workers.specs.Ready.{IfOver}
use Rattle.search_workers.specs.Stopped.{HasEndedAt}
use Rattle.search_workers.proofs.workers.working.round.Goals as goal

pub wait_turn-requires-send-V : goal.wait_turn-requires-send-V
wait_turn-requires-send-V g c κs within =
    let m = c.type_bounds.send-M in
    let y = c.type_bounds.sync-M in
    let d = c.type_bounds.send-D in
    search (sendable, crosses, kept_send) depth 40 fits 4000

pub returns-in-Finished-clause-ended : goal.returns-in-Finished-clause-ended
returns-in-Finished-clause-ended g c = λ _.
    let over : Taken → Type 0 = λ t. IfOver t (HasEndedAt c.args.crew.now.turn.now c.take_one-asked.new.seat) in
    ⊎_elim (λ is. subst over is c.take_one-asked.ensures.ended) (λ halted. subst over halted.1 c.take_one-asked.ensures.ended) c.in-Finished.is
