use Rattle.std.proofs.Common.{◌≡◌, ℕ, ◌<◌}
use Rattle.node_sets.specs.Sets.{row_word}
use Rattle.node_sets.proofs.test.is_empty.Given as goal

abbrev pub invariant-loop-i : goal.invariant-loop-i
invariant-loop-i l = (k : ℕ) → k < l.i → row_word l.row k ≡ 0
