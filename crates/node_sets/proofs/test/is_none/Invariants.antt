use Rattle.std.proofs.Common.{◌≡◌, ℕ, ◌<◌}
use Rattle.node_sets.specs.Sets.{row_word}
use Rattle.node_sets.specs.Pairs.{made_word}
use Rattle.node_sets.proofs.test.is_none.Given as goal

abbrev pub invariant-loop-i : goal.invariant-loop-i
invariant-loop-i l = (k : ℕ) → k < l.i → made_word l.how (row_word l.left k) (row_word l.right k) ≡ 0
