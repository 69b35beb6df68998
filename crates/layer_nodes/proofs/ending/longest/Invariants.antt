use Rattle.std.proofs.Common.{◌≡◌, take}
use Rattle.dp_model.specs.Numbers.{greatest}
use Rattle.layer_nodes.specs.Ending.{lengths, suffixes_in}
use Rattle.layer_nodes.specs.Routing.{routed_arcs}
use Rattle.layer_nodes.proofs.ending.longest.Given as goal

abbrev pub invariant-arcs : goal.invariant-arcs
invariant-arcs l = l.best ≡ greatest (lengths (suffixes_in l.next) (routed_arcs l.routes (take l.i l.arcs)))
