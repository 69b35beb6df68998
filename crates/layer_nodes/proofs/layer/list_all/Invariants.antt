use Rattle.std.proofs.Common.{◌≡◌, map, take, vec_capacity}
use Rattle.layer_nodes.specs.Stored.{bare_of}
use Rattle.layer_nodes.proofs.layer.list_all.Given as goal

abbrev pub invariant-nodes : goal.invariant-nodes
invariant-nodes l = record {
  items : l.nodes.items ≡ map bare_of (take l.i l.others);
  capacity : vec_capacity l.nodes ≡ vec_capacity l.fn.nodes;
}
