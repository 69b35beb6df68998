use Rattle.std.proofs.Common.{take}
use Rattle.layer_nodes.specs.Striking.{AreInexact}
use Rattle.layer_nodes.proofs.striking.has_exact.Given as goal

abbrev pub invariant-nodes : goal.invariant-nodes
invariant-nodes l = AreInexact (take l.i l.layer.nodes)
