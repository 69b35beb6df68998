use Rattle.std.proofs.Common.{◌≡◌, map, take, vec_capacity}
use Rattle.relaxed_dd.specs.Shown.{layers_of, layer_in}
use Rattle.cover_pages.specs.Pages.{row_of}
use Rattle.cover_pages.specs.Stored.{HasPutRows}
use Rattle.cover_pages.proofs.writing.put_layer.Given as goal

abbrev pub invariant-nodes : goal.invariant-nodes
invariant-nodes l = record {
  put : HasPutRows l.fn.region l.fn.ids.items (map row_of (take l.node (layer_in (layers_of l.diagram) l.depth))) l.region l.ids.items;
  room : vec_capacity l.ids ≡ vec_capacity l.fn.ids;
}
