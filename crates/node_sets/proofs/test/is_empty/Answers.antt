use Rattle.std.proofs.Common.{arith, refl}
use Rattle.std.proofs.lemmas.Bool.{false≢true}
use Rattle.node_sets.proofs.Tests.{empty_all, empty_not}
use Rattle.node_sets.proofs.test.is_empty.Goals as goal

pub returns-then-word-ne0 : goal.returns-then-word-ne0
returns-then-word-ne0 c = (λ e. absurd (false≢true e), λ h. absurd (empty_not _ c.loop-i.i _ c.requires c.word.ensures (omega arith) h))

pub returns : goal.returns
returns c = (λ _. empty_all _ c.loop-i.i (omega arith) c.loop-i.invariant, λ _. refl)
