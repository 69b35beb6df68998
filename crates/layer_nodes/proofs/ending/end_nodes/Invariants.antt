use Rattle.std.proofs.Common.{◌≡◌}
use Rattle.layer_nodes.specs.Ending.{suffixes_in, ended_in}
use Rattle.layer_nodes.specs.Routing.{routed_arcs}
use Rattle.layer_nodes.proofs.Ended.{mapped_to}
use Rattle.layer_nodes.proofs.ending.end_nodes.Given as goal

abbrev pub invariant-nodes : goal.invariant-nodes
invariant-nodes l = l.nodes ≡ mapped_to (ended_in (routed_arcs l.routes l.arcs) (suffixes_in l.next)) l.i l.fn.nodes
