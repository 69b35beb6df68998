use Rattle.std.proofs.Common.{◌≡◌, map, take, vec_len, vec_capacity}
use Rattle.relaxed_dd.specs.Shown.{layers_of, layer_in}
use Rattle.cover_pages.specs.Stored.{body_of}
use Rattle.cover_pages.proofs.making.make_nodes.Given as goal

abbrev pub invariant-nodes : goal.invariant-nodes
invariant-nodes l = record {
  items : l.nodes.items ≡ map body_of (take l.node (layer_in (layers_of l.diagram) l.depth));
  room : vec_capacity l.nodes ≡ l.count;
  many : vec_len l.nodes ≡ l.node;
}
