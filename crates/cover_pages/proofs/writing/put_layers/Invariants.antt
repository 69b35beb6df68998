use Rattle.std.proofs.Common.{◌≡◌, take, vec_capacity}
use Rattle.relaxed_dd.specs.Shown.{layers_of}
use Rattle.cover_pages.specs.Stored.{HasPutRows, rows_of}
use Rattle.cover_pages.proofs.writing.put_layers.Given as goal

abbrev pub invariant-layers : goal.invariant-layers
invariant-layers l = record {
  put : HasPutRows l.fn.region l.fn.ids.items (rows_of (take l.i (layers_of l.diagram).layers)) l.region l.ids.items;
  room : vec_capacity l.ids ≡ vec_capacity l.fn.ids;
}
