use Rattle.std.proofs.Common.{arith}
use Rattle.solver_words.proofs.Meanings.{refused_by_last}
use Rattle.solver_words.proofs.reading.refuses.Goals as goal

pub returns-in-len1-up : goal.returns-in-len1-up
returns-in-len1-up c = refused_by_last c.as_bytes.result.now c.args.word.now c.as_bytes.ensures.value (omega arith)
