use Rattle.std.proofs.Common.{◌≡◌, drop}
use Rattle.node_sets.specs.Sets.{are_words}
use Rattle.node_sets.proofs.test.are_words.Given as goal

abbrev pub invariant-loop-cell : goal.invariant-loop-cell
invariant-loop-cell l = are_words (drop l.cell-index l.row) ≡ are_words l.row
