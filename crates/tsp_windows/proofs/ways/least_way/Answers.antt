use Rattle.std.proofs.Common.{◌≡◌, ◌+◌, ◌*◌, not, nat_eq, get_or, ap, ◌∙◌, arith}
use Rattle.std.specs.Prelude.{unwrap_or}
use Rattle.node_sets.specs.Sums.{least_amount}
use Rattle.tsp_windows.specs.Instance.{least_way}
use Rattle.tsp_windows.proofs.ways.least_way.Goals as goal

pub returns : goal.returns
unfolding least_way
returns c =
    let all : c.others.from ≡ c.args.nodes = omega arith in
    c.unwrap_or.ensures ∙ ap (λ o. unwrap_or o 0) (c.others.invariant ∙ ap (λ n. least_amount n (λ u. not (nat_eq u c.args.to)) (λ u. get_or c.args.distances.now (u * c.args.nodes + c.args.to) 0)) all)
