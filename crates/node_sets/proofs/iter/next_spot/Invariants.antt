use Rattle.std.proofs.Common.{◌≡◌, ℕ, ◌*◌, ◌<◌, ◌≤◌, false}
use Rattle.node_sets.specs.Sets.{has}
use Rattle.node_sets.proofs.iter.next_spot.Given as goal

abbrev pub invariant-words : goal.invariant-words
invariant-words l = (v : ℕ) → l.fn.spot.from ≤ v → v < 32 * l.i → has l.row v ≡ false
