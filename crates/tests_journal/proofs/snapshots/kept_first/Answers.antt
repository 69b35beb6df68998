use Rattle.tests_journal.proofs.snapshots.kept_first.Goals as goal

pub new-requires-clause-made : goal.new-requires-clause-made
new-requires-clause-made g c κs within = c.requires (g.M.DpModel.meaning c.first-board.result.numbers) c.first-board.result.board c.first-board.ensures.made c.first-board.ensures.within
