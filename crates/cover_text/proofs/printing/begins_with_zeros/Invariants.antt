use Rattle.std.proofs.Common.{◌≡◌, ◌≤◌, length, take, replicate}
use Rattle.std.specs.Prelude.{pos}
use Rattle.cover_text.proofs.printing.begins_with_zeros.Given as goal

abbrev pub invariant-words : goal.invariant-words
invariant-words l = (take l.i l.words ≡ replicate l.i (pos 0)) × (8 ≤ length l.words)
