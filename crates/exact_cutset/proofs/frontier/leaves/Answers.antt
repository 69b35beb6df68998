use Rattle.std.proofs.Common.{◌+◌}
use Rattle.dp_laws.specs.Diagrams.Nodes.{node_at}
use Rattle.relaxed_dd.specs.Shown.{layers_of, layer_in}
use Rattle.exact_cutset.proofs.Leaving.{found-out, none-out}
use Rattle.exact_cutset.proofs.frontier.leaves.Goals as goal

pub returns-then-leads_out : goal.returns-then-leads_out
returns-then-leads_out c =
    let d = layers_of c.args.diagram.now in
    found-out (layer_in d (c.args.depth + 1)) (node_at d c.args.depth c.args.node) c.arcs.i c.arc-arc.result c.leads_out.result c.arc-arc.ensures c.arcs.invariant c.leads_out.ensures c.if-leads_out.true

pub arcs-preserved : goal.arcs-preserved
arcs-preserved c =
    let d = layers_of c.args.diagram.now in
    none-out (layer_in d (c.args.depth + 1)) (node_at d c.args.depth c.args.node) c.arcs.i c.arc-arc.result c.leads_out.result c.arc-arc.ensures c.arcs.invariant c.leads_out.ensures c.if-leads_out.false
