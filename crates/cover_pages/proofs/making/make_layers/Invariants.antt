use Rattle.std.proofs.Common.{◌≡◌, take, vec_len, vec_capacity}
use Rattle.relaxed_dd.specs.Shown.{layers_of}
use Rattle.cover_pages.specs.Sizes.{nodes_of}
use Rattle.cover_pages.specs.Stored.{numbered}
use Rattle.cover_pages.proofs.making.make_layers.Given as goal

abbrev pub invariant-layers : goal.invariant-layers
invariant-layers l = record {
  items : l.layers.items ≡ numbered 0 (take l.i (layers_of l.diagram).layers);
  start : l.start ≡ nodes_of (take l.i (layers_of l.diagram).layers);
  room : vec_capacity l.layers ≡ l.count;
  many : vec_len l.layers ≡ l.i;
}
