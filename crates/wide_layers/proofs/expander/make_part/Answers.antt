use Rattle.std.proofs.Common.{List, length, ap, arith}
use Rattle.dp_laws.specs.Diagrams.Nodes.{DdNode}
use Rattle.wide_layers.proofs.Lasts.{layer-last}
use Rattle.wide_layers.proofs.expander.make_part.Goals as goal

pub make-requires-clause-within : goal.make-requires-clause-within
make-requires-clause-within g c κs within =
    let all = ap (λ (l : List DdNode). length l) (layer-last c.args.space.now c.last_depth.result c.requires.under_way.some c.last_depth.ensures) in
    let nodes = c.nodes-nodes.ensures in
    let high = c.end_of-to.ensures.within in
    omega (arith, all, nodes, high)
