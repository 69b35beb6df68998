use Rattle.std.proofs.Common.{◌≡◌}
use Rattle.layer_nodes.specs.Ending.{at_end_in}
use Rattle.layer_nodes.proofs.Ended.{mapped_to}
use Rattle.layer_nodes.proofs.ending.end_last.Given as goal

abbrev pub invariant-nodes : goal.invariant-nodes
invariant-nodes l = l.nodes ≡ mapped_to at_end_in l.i l.fn.nodes
