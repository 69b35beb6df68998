use Rattle.tests_journal.proofs.files.add.Goals as goal

pub append-requires-clause-version : goal.append-requires-clause-version
append-requires-clause-version g c = c.record.ensures.version c.args.tail.now.version
