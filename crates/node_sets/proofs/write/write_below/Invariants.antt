use Rattle.std.proofs.Common.{◌≡◌, ℕ, nat_lt}
use Rattle.node_sets.specs.Sets.{AreWords, has}
use Rattle.node_sets.proofs.write.write_below.Given as goal

abbrev pub invariant-numbers : goal.invariant-numbers
invariant-numbers l = AreWords l.row × ((u : ℕ) → has l.row u ≡ nat_lt u l.v)
