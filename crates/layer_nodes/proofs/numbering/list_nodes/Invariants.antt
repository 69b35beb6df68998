use Rattle.std.proofs.Common.{◌≡◌, map, take, vec_len, vec_capacity}
use Rattle.layer_nodes.specs.Expanding.{node_of}
use Rattle.layer_nodes.proofs.numbering.list_nodes.Given as goal

abbrev pub invariant-keys : goal.invariant-keys
invariant-keys l = record {
  nodes : l.nodes.items ≡ map (node_of l.ways l.marks) (take l.i l.keys);
  len : vec_len l.nodes ≡ l.i;
  capacity : vec_capacity l.nodes ≡ vec_capacity l.fn.nodes;
}
