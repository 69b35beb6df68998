use Rattle.std.proofs.Common.{◌≡◌, drop, length, map}
use Rattle.std.specs.Prelude.{fold}
use Rattle.bound_cover.specs.Exploring.{layer_of}
use Rattle.bound_cover.specs.Stored.{with_row}
use Rattle.cover_join.specs.Joined.{shifted_row}
use Rattle.cover_join.proofs.adding.push_rows.Given as goal

abbrev pub invariant-loop-row : goal.invariant-loop-row
invariant-loop-row l = record {
  rows : fold with_row l.cover (map (shifted_row l.before) (drop l.row (layer_of l.part l.layer))) ≡ fold with_row l.initial.cover (map (shifted_row l.before) (layer_of l.part l.layer));
  layers : length l.cover ≡ length l.initial.cover;
}
