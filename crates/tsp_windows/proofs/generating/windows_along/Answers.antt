use Rattle.std.proofs.Common.{rules, arith}
use Rattle.tsp_windows.proofs.Windows.{along_next}
use Rattle.tsp_windows.proofs.generating.windows_along.Goals as goal

pub nodes-preserved : goal.nodes-preserved
nodes-preserved c =
    along_next c.args.nodes c.nodes.node c.nodes.time c.from-time.result c.args.distances.now c.nodes.windows.items c.push-in-nodes.new.self.items c.nodes.invariant
    (omega arith) (search rules) (search rules) (search rules)
