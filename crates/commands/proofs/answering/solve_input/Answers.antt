use Rattle.std.proofs.Common.{rules, tests}
use Rattle.commands.proofs.answering.solve_input.Goals as goal

pub returns-in-Ok-6-clause-answer : goal.returns-in-Ok-6-clause-answer
returns-in-Ok-6-clause-answer g c = search (tests, rules)
