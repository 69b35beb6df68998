use Rattle.search_workers.proofs.workers.working.work.Goals as goal

pub returns-then-not-round-clause-ended : goal.returns-then-not-round-clause-ended
returns-then-not-round-clause-ended g c = c.round.ensures.ended c.if-not-round.true
