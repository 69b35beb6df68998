use Rattle.std.proofs.Common.{subst}
use Rattle.fringe.specs.Fringe.{FringeView, IsFringe}
use Rattle.fringe.proofs.Fringes.{opened_fringe}
use Rattle.fringe.proofs.fringe.Fringe.spare.Goals as goal

pub returns-clause-kept : goal.returns-clause-kept
returns-clause-kept c = subst (λ (v : FringeView). IsFringe v.words v.open_ones) c.self.view_is (opened_fringe _ _ c.self.invariant.0.held)
