use Rattle.node_sets.proofs.Comings.{whole_word}
use Rattle.node_sets.proofs.iter.Members.of.Goals as goal

pub invariant_of-result : goal.invariant_of-result
invariant_of-result c = whole_word _ 0 _ c.requires.cells c.requires.short c.first_word.ensures
