use Rattle.std.proofs.Common.{ℕ, ℤ, List, ◌+◌, ◌*◌, ◌&&◌, not, nat_eq, get_or, ap₂, ◌∙◌}
use Rattle.node_sets.specs.Sums.{least_amount}
use Rattle.node_sets.specs.Sets.{has}
use Rattle.tsp_windows.specs.States.{leg, shown}
use Rattle.tsp_windows.proofs.instance.TspWindows.leg.Goals as goal

pub returns : goal.returns
unfolding leg shown
returns c =
    c.least_leg.ensures
    ∙ ap₂ (λ (r : List ℤ) (ds : List ℕ). least_amount c.args.self.now.nodes (λ p. has r p && not (nat_eq p c.args.to)) (λ p. get_or ds (p * c.args.self.now.nodes + c.args.to) 0)) c.positions_of.ensures.row c.deref.ensures.value
