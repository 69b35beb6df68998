use Rattle.std.proofs.Common.{◌≡◌, take, length, vec_len, vec_capacity}
use Rattle.cover_pages.specs.Books.{places_of}
use Rattle.search_workers.proofs.collecting.places_of.Given as goal

abbrev pub invariant-children : goal.invariant-children
invariant-children l = record {
  items : l.places.items ≡ places_of (take l.child l.cutset.places);
  room : vec_capacity l.places ≡ length l.cutset.places;
  many : vec_len l.places ≡ l.child;
}
