use Rattle.std.proofs.Common.{subst}
use Rattle.search_workers.specs.Stopped.{WasStopped}
use Rattle.search_workers.proofs.Stopping.{stopped-ends}
use Rattle.search_workers.proofs.workers.working.go_on.Goals as goal

pub returns-in-Err-GaveBack-clause-ended : goal.returns-in-Err-GaveBack-clause-ended
returns-in-Err-GaveBack-clause-ended g c = λ _.
    let t = c.args.crew.now.turn.now in
    let seat = c.expand.new.seat in
    stopped-ends g.D.Disk g.M.DpModel.meaning t c.args.seat.now seat (subst (WasStopped g.D.Disk g.M.DpModel.meaning t c.args.seat.now seat) c.in-Err-GaveBack.field-0-is c.in-Err-GaveBack.ensures.why)
