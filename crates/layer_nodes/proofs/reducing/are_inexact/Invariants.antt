use Rattle.std.proofs.Common.{take}
use Rattle.layer_nodes.specs.Reducing.{AreInexact}
use Rattle.layer_nodes.proofs.reducing.are_inexact.Given as goal

abbrev pub invariant-keys : goal.invariant-keys
invariant-keys l = AreInexact l.marks (take l.i l.keys)
