use Rattle.std.proofs.Common.{arith, refl, eq-eqb}
use Rattle.std.proofs.lemmas.Bool.{eqb-true}
use Rattle.node_sets.proofs.Words.{has-past}
use Rattle.node_sets.proofs.Tests.{above_zero, above_some}
use Rattle.node_sets.proofs.test.is_below.Goals as goal

pub returns-then-n-eq0 : goal.returns-then-n-eq0
returns-then-n-eq0 c = (λ _ v l. has-past _ v (omega arith), λ _. refl)

pub returns : goal.returns
returns c = (
  λ e. above_zero _ c.args.n _ c.word.ensures (omega arith) (eqb-true _ _ e),
  λ h. eq-eqb _ _ (above_some _ c.args.n _ c.word.ensures (omega arith) (omega arith) h),
)
