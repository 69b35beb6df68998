use Rattle.std.proofs.Common.{rules, tests}
use Rattle.commands.proofs.answering.digest_input.Goals as goal

pub returns-in-Ok-6 : goal.returns-in-Ok-6
returns-in-Ok-6 g c = search (tests, rules)
