use Rattle.std.proofs.Common.{◌≡◌, ◌-◌, ◌<◌, [], length}
use Rattle.bound_cover.specs.Stored.{last_layer}
use Rattle.cover_text.specs.Grammar.{until, never}
use Rattle.cover_text.specs.RowLines.{row_into}
use Rattle.cover_text.proofs.layers.read_rows.Given as goal

-- as many rows stand in the last layer as were read
abbrev pub invariant-loop : goal.invariant-loop
invariant-loop l = record {
  reads : until never (row_into l.most) (l.rows - l.counter) l.cover.cover l.tokens ≡ until never (row_into l.most) l.rows l.initial.cover.cover l.initial.tokens;
  layer : 0 < length l.cover.cover;
  rows : length (last_layer l.cover.cover) ≡ l.counter;
  words : l.cover.words ≡ [];
  arcs : l.cover.arcs ≡ [];
}
