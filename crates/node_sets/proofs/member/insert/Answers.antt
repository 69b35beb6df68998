use Rattle.node_sets.proofs.Changes.{insert_members}
use Rattle.node_sets.proofs.member.insert.Goals as goal

pub returns-clause-members : goal.returns-clause-members
returns-clause-members c = rw c.put.ensures (insert_members _ c.args.v _ c.requires.within c.word.ensures)
