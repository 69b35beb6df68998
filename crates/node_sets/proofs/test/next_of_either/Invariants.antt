use Rattle.std.proofs.Common.{◌≡◌, ℕ, ◌*◌, ◌<◌, ◌≤◌, ◌||◌, false}
use Rattle.node_sets.specs.Sets.{has}
use Rattle.node_sets.proofs.test.next_of_either.Given as goal

abbrev pub invariant-loop-i : goal.invariant-loop-i
invariant-loop-i l = (v : ℕ) → l.from ≤ v → v < 32 * l.i → (has l.one v || has l.two v) ≡ false
