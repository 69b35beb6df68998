use Rattle.std.proofs.Common.{◌≡◌, length}
use Rattle.tokens.specs.Text.{IsCountable}
use Rattle.cover_text.specs.Instances.{place_following, end_place}
use Rattle.cover_text.proofs.instance.end_place.Given as goal

abbrev pub invariant-loop-rest : goal.invariant-loop-rest
invariant-loop-rest l = record {
  following : place_following l.place l.rest ≡ end_place l.bytes;
  countable : IsCountable l.place l.rest;
}

abbrev pub decreases-loop-rest : goal.decreases-loop-rest
decreases-loop-rest l = length l.rest
