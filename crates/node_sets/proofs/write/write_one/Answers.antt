use Rattle.std.proofs.Common.{◌∙◌, arith}
use Rattle.node_sets.proofs.Made.{row_is}
use Rattle.node_sets.proofs.Written.{one_is}
use Rattle.node_sets.proofs.write.write_one.Goals as goal

pub returns : goal.returns
returns c = row_is _ _ _ c.insert.ensures.cells (omega arith) (λ u. c.insert.ensures.members u ∙ one_is _ _ (c.clear.ensures.members u))
