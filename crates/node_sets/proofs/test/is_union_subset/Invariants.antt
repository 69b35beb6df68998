use Rattle.std.proofs.Common.{◌≡◌, ℕ, ◌<◌, bit_and, bit_or}
use Rattle.std.specs.Int.{bit_not, w32}
use Rattle.node_sets.specs.Sets.{row_word}
use Rattle.node_sets.proofs.test.is_union_subset.Given as goal

abbrev pub invariant-loop-i : goal.invariant-loop-i
invariant-loop-i l = (k : ℕ) → k < l.i → bit_and (bit_or (row_word l.one k) (row_word l.two k)) (bit_not w32 (bit_or (row_word l.wide k) (row_word l.more k))) ≡ 0
