use Rattle.std.proofs.Common.{arith, refl}
use Rattle.std.proofs.lemmas.Bool.{false≢true}
use Rattle.node_sets.proofs.Tests.{union_all, union_not}
use Rattle.node_sets.proofs.test.is_union_subset.Goals as goal

pub returns-then-part-whole-ne0 : goal.returns-then-part-whole-ne0
returns-then-part-whole-ne0 c = (λ e. absurd (false≢true e), λ h. absurd (union_not _ _ _ _ c.loop-i.i _ _ _ _ c.requires.one_cells c.requires.two_cells c.requires.wide_cells c.requires.more_cells c.word.ensures c.word-in-loop-i.ensures c.word-in-loop-i-2.ensures c.word-in-loop-i-3.ensures (omega arith) h))

pub returns : goal.returns
returns c = (λ _. union_all _ _ _ _ c.loop-i.i c.requires.wide_cells c.requires.more_cells c.requires.two_same (omega arith) c.loop-i.invariant, λ _. refl)
