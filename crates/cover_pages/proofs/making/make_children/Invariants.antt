use Rattle.std.proofs.Common.{◌≡◌, take, length, vec_len, vec_capacity}
use Rattle.relaxed_dd.specs.Shown.{layers_of}
use Rattle.cover_pages.specs.Pages.{children_of}
use Rattle.cover_pages.proofs.making.make_children.Given as goal

abbrev pub invariant-children : goal.invariant-children
invariant-children l = record {
  items : l.children.items ≡ children_of (layers_of l.diagram) (take l.i l.places) (take l.i l.fates);
  room : vec_capacity l.children ≡ length l.places;
  many : vec_len l.children ≡ l.i;
}
