use Rattle.std.proofs.Common.{arith, refl}
use Rattle.std.proofs.lemmas.Bool.{false≢true}
use Rattle.node_sets.proofs.Pairings.{none_made, some_made}
use Rattle.node_sets.proofs.test.is_none.Goals as goal

pub returns-then-words-ne0 : goal.returns-then-words-ne0
returns-then-words-ne0 c = (λ e. absurd (false≢true e), λ h. absurd (some_made c.args.how _ _ c.loop-i.i _ _ c.requires.left_cells c.requires.right_cells c.word.ensures c.word-in-loop-i.ensures (omega arith) h))

pub returns : goal.returns
returns c = (λ _. none_made c.args.how _ _ c.loop-i.i c.requires.right_cells c.requires.same (omega arith) c.loop-i.invariant, λ _. refl)
