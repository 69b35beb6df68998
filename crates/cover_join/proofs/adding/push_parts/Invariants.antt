use Rattle.std.proofs.Common.{◌≡◌, length}
use Rattle.std.specs.Prelude.{fold}
use Rattle.bound_cover.specs.Stored.{with_row}
use Rattle.cover_join.specs.Joined.{joined_layer}
use Rattle.cover_join.specs.Joining.{answers_in}
use Rattle.cover_join.proofs.adding.push_parts.Given as goal

abbrev pub invariant-loop-rest : goal.invariant-loop-rest
invariant-loop-rest l = record {
  rows : fold with_row l.cover (joined_layer l.layer l.before (answers_in l.rest)) ≡ fold with_row l.initial.cover (joined_layer l.layer 0 (answers_in l.texts));
  layers : length l.cover ≡ length l.initial.cover;
}

abbrev pub decreases-loop-rest : goal.decreases-loop-rest
decreases-loop-rest l = length l.rest
