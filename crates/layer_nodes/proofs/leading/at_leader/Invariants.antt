use Rattle.std.proofs.Common.{◌≡◌, drop}
use Rattle.dp_laws.specs.Rules.Pruning.{at_leader}
use Rattle.layer_candidates.specs.HeldRows.{held_row}
use Rattle.layer_nodes.specs.Leading.{leaders_of, bare}
use Rattle.layer_nodes.proofs.leading.at_leader.Given as goal

abbrev pub invariant-leaders : goal.invariant-leaders
invariant-leaders g l =
    let dp = g.M.DpModel.meaning (g.M.DpModel.numbers l.model) in
    let row = held_row l.region in
    at_leader dp l.k (leaders_of row (drop l.i l.leaders)) (bare row l.node) ≡ at_leader dp l.k (leaders_of row l.leaders) (bare row l.node)
