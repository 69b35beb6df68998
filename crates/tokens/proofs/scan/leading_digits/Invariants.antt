use Rattle.std.proofs.Common.{◌≡◌, ◌-◌, ◌^◌, min, length}
use Rattle.tokens.specs.Text.{value_after}
use Rattle.tokens.specs.Scanned.{head_digits, after_digits}
use Rattle.tokens.proofs.scan.leading_digits.Given as goal

abbrev pub invariant-loop-rest : goal.invariant-loop-rest
invariant-loop-rest l = record {
  value : min (value_after l.size (head_digits l.rest)) (2 ^ 64 - 1) ≡ min (value_after 0 (head_digits l.bytes)) (2 ^ 64 - 1);
  fits : min l.size (2 ^ 64 - 1) ≡ l.size;
  following : after_digits l.rest ≡ after_digits l.bytes;
}

abbrev pub decreases-loop-rest : goal.decreases-loop-rest
decreases-loop-rest l = length l.rest
