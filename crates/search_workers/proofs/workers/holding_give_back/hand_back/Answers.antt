use Rattle.search_workers.proofs.workers.holding_give_back.hand_back.Goals as goal

pub returns-then-give_back_one-clause-ended : goal.returns-then-give_back_one-clause-ended
returns-then-give_back_one-clause-ended g c = c.give_back_one.ensures.ended c.if-give_back_one.true
