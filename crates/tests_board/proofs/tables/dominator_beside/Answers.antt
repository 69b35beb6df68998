use Rattle.tests_board.proofs.tables.dominator_beside.Goals as goal

pub dominator-requires-clause-rows : goal.dominator-requires-clause-rows
dominator-requires-clause-rows g c κs within = c.put_first.ensures c.args.sought.0
