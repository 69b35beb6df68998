use Rattle.std.proofs.Common.{◌≡◌, ◌+◌, ◌*◌, ◌≤◌, rules, subst, sym}
use Rattle.tsp_windows.specs.Generating.{home_again}
use Rattle.tsp_windows.proofs.Windows.{home_early}
use Rattle.tsp_windows.proofs.generating.home_again.Goals as goal

pub returns-clause-early : goal.returns-clause-early
returns-clause-early c =
    let same : c.nodes.time + c.from.result ≡ home_again c.args.nodes c.args.distances.now = search rules in
    subst (λ t. t ≤ 15000) (sym same) (home_early c.args.nodes (c.args.nodes * c.args.nodes) c.args.distances.now c.requires.distances c.requires.some c.requires.few)
