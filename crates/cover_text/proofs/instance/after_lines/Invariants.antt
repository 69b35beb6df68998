use Rattle.std.proofs.Common.{◌≡◌, ◌≤◌, length}
use Rattle.cover_text.specs.Instances.{after_lines}
use Rattle.cover_text.proofs.instance.after_lines.Given as goal

-- what is after the lines that are left is what is after them all
abbrev pub invariant-loop-rest : goal.invariant-loop-rest
invariant-loop-rest l = record {
  part : after_lines l.left l.rest ≡ after_lines l.lines l.bytes;
  within : length l.rest ≤ length l.bytes;
}

abbrev pub decreases-loop-rest : goal.decreases-loop-rest
decreases-loop-rest l = length l.rest
