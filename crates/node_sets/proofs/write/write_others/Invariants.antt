use Rattle.std.proofs.Common.{◌≡◌, ℕ, ◌&&◌, not, nat_lt, nat_eq}
use Rattle.node_sets.specs.Sets.{AreWords, has}
use Rattle.node_sets.proofs.write.write_others.Given as goal

abbrev pub invariant-numbers : goal.invariant-numbers
invariant-numbers l = AreWords l.row × ((u : ℕ) → has l.row u ≡ (nat_lt u l.v && not (nat_eq u 0)))
