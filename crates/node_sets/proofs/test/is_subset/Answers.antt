use Rattle.node_sets.proofs.Tests.{outside, within}
use Rattle.node_sets.proofs.test.is_subset.Goals as goal

pub returns : goal.returns
returns c = (λ e v. within _ _ (c.is_none.ensures.0 e v), λ h. c.is_none.ensures.1 (λ v. outside _ _ (h v)))
