use Rattle.std.proofs.Common.{◌≡◌, ◌≤◌, ◌==◌, ◌||◌, not, length, false, Bool}
use Rattle.tokens.specs.Text.{Comment, skip, is_blank_line, IsCountable}
use Rattle.tokens.proofs.scan.skip_blanks.Given as goal

abbrev pub invariant-loop-rest : goal.invariant-loop-rest
invariant-loop-rest l = record {
  found : (comment : Comment) (fresh : Bool) → skip comment false (fresh || not (l.place.line == l.fn.from.line)) l.place l.rest ≡ skip comment false fresh l.fn.from l.fn.bytes;
  countable : IsCountable l.place l.rest;
  later : l.fn.from.line ≤ l.place.line;
  line : (is_blank_line l.rest || not (l.place.line == l.fn.from.line)) ≡ is_blank_line l.fn.bytes;
}

abbrev pub decreases-loop-rest : goal.decreases-loop-rest
decreases-loop-rest l = length l.rest
