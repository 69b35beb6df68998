use Rattle.std.proofs.Common.{◌≡◌, ◌*◌}
use Rattle.node_sets.specs.Sums.{count_below}
use Rattle.node_sets.specs.Sets.{has}
use Rattle.node_sets.proofs.test.count.Given as goal

abbrev pub invariant-words : goal.invariant-words
invariant-words l = l.total ≡ count_below (32 * l.i) (has l.row)
