use Rattle.std.proofs.Common.{◌≡◌, ◌≤◌, length}
use Rattle.cover_text.specs.Texts.{text_in}
use Rattle.cover_join.specs.Joining.{places_fault, texts_in}
use Rattle.cover_join.proofs.places.places_fault.Given as goal

abbrev pub invariant-loop-rest : goal.invariant-loop-rest
invariant-loop-rest l = record {
  fault : places_fault (text_in l.first) l.of l.index (texts_in l.rest) ≡ places_fault (text_in l.first) l.of 0 (texts_in l.texts);
  within : l.index ≤ l.of;
}

abbrev pub decreases-loop-rest : goal.decreases-loop-rest
decreases-loop-rest l = length l.rest
