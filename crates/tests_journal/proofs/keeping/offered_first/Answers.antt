use Rattle.tests_journal.proofs.keeping.offered_first.Goals as goal

pub offer-answer-requires-clause-made : goal.offer-answer-requires-clause-made
offer-answer-requires-clause-made g c κs within = c.requires (g.M.DpModel.meaning c.first-board.result.numbers) c.first-board.result.board c.first-board.ensures.made c.first-board.ensures.within
