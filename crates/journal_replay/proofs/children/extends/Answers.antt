use Rattle.journal_replay.proofs.Begins.{extends-longer}
use Rattle.journal_replay.proofs.children.extends.Goals as goal

pub returns-then-prefix-decisions : goal.returns-then-prefix-decisions
returns-then-prefix-decisions c = extends-longer c.args.prefix.now c.args.decisions.now c.starts_with.result c.if-prefix-decisions.true c.starts_with.ensures.value
