use Rattle.std.proofs.Common.{arith}
use Rattle.node_sets.proofs.Written.{bit_of_one, bit_of_none}
use Rattle.node_sets.proofs.write.word_of_one.Goals as goal

pub returns-then-i-v : goal.returns-then-i-v
returns-then-i-v c j l = bit_of_one c.args.v c.args.i j (omega arith) l

pub returns-else-i-v : goal.returns-else-i-v
returns-else-i-v c j l = bit_of_none c.args.v c.args.i j (omega arith) l
