use Rattle.std.proofs.Common.{◌≡◌, ◌*◌, ◌≤◌, ◌++◌, drop, length, vec_len, vec_capacity}
use Rattle.exact_cutset.specs.Seen.{subproblems}
use Rattle.exact_cutset.specs.Stored.{shown_subs, depths_of}
use Rattle.exact_cutset.proofs.making.make_subs.Given as goal

abbrev pub invariant-places : goal.invariant-places
invariant-places l = record {
  made : subproblems l.subs.items ++ shown_subs l.words (drop l.child-index l.places) l.rows_left l.paths_left ≡ shown_subs l.words l.places l.rows l.paths;
  rows_are : length l.rows_left ≡ length (drop l.child-index l.places) * l.words;
  paths_are : length l.paths_left ≡ depths_of (drop l.child-index l.places);
  many : vec_len l.subs ≡ l.child-index;
  room : length l.places ≤ vec_capacity l.subs;
}
