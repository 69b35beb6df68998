use Rattle.std.proofs.Common.{◌+◌}
use Rattle.dp_laws.specs.Diagrams.Nodes.{node_at}
use Rattle.relaxed_dd.specs.Shown.{layers_of, layer_in}
use Rattle.exact_cutset.proofs.Leaving.{AreSearched}
use Rattle.exact_cutset.proofs.frontier.leaves.Given as goal

abbrev pub invariant-arcs : goal.invariant-arcs
invariant-arcs l = AreSearched (layer_in (layers_of l.diagram) (l.depth + 1)) (node_at (layers_of l.diagram) l.depth l.node) l.i
