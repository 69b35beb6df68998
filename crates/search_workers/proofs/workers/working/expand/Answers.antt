use Rattle.search_workers.proofs.Stopping.{all-stopped-since}
use Rattle.search_workers.proofs.workers.working.expand.Goals as goal

pub returns-clause-why : goal.returns-clause-why
returns-clause-why g c =
    all-stopped-since g.D.Disk g.M.DpModel.meaning c.args.crew.now.turn.now c.args.seat.now c.branch-crew.new.seat c.finish_one-finished.new.seat c.finish_one-finished.result c.branch-crew.ensures.no_less
    c.in_ok-branched.ensures.out c.finish_one-finished.ensures.why
