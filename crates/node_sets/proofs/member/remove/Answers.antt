use Rattle.node_sets.proofs.Written.{remove_row}
use Rattle.node_sets.proofs.member.remove.Goals as goal

pub returns : goal.returns
returns c = remove_row _ _ c.args.v c.word.result c.requires.cells c.requires.within c.word.ensures c.word.type_inv c.put.ensures
