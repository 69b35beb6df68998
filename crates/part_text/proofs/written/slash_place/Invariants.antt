use Rattle.std.proofs.Common.{◌≡◌, ◌+◌, length}
use Rattle.part_text.specs.Written.{slash_place}
use Rattle.part_text.proofs.written.slash_place.Given as goal

abbrev pub invariant-loop-rest : goal.invariant-loop-rest
invariant-loop-rest l = record {
  count : l.place + slash_place l.rest ≡ slash_place l.word;
  bound : l.place + length l.rest ≡ length l.word;
}

abbrev pub decreases-loop-rest : goal.decreases-loop-rest
decreases-loop-rest l = length l.rest
