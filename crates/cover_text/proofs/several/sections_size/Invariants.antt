use Rattle.std.proofs.Common.{◌≡◌, ◌+◌, length}
use Rattle.cover_text.specs.Several.{size_to_end, sections_size}
use Rattle.cover_text.proofs.several.sections_size.Given as goal

abbrev pub invariant-loop-rest : goal.invariant-loop-rest
invariant-loop-rest l = record {
  size_is : l.size + size_to_end l.starts l.rest ≡ sections_size l.bytes;
  within : l.size + length l.rest ≡ length l.bytes;
}

abbrev pub decreases-loop-rest : goal.decreases-loop-rest
decreases-loop-rest l = length l.rest
