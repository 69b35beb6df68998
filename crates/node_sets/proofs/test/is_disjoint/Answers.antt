use Rattle.node_sets.proofs.Tests.{apart, both_not}
use Rattle.node_sets.proofs.test.is_disjoint.Goals as goal

pub returns : goal.returns
returns c = (λ e v. apart _ _ (c.is_none.ensures.0 e v), λ h. c.is_none.ensures.1 (λ v. both_not _ _ (h v)))
