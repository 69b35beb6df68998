use Rattle.node_sets.proofs.Changes.{contains_is}
use Rattle.node_sets.proofs.member.contains.Goals as goal

pub returns : goal.returns
returns c = contains_is _ c.args.v _ c.word.ensures
