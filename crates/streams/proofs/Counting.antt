-- Which writes are idle.
use Rattle.std.proofs.Common.{◌≡◌, ℕ, ◌==◌, ◌&&◌, Bool, arith}
use Rattle.std.proofs.lemmas.Bool.Decides.{nat_tests}
use Rattle.streams.specs.Counts.{Counts}

-- a write that took something is not idle
pub Counts-some_taken : (n : ℕ) (nonempty : Bool) (before now : ℕ) →
    (n ≡ 0 → ⊥) → Counts ((n == 0) && nonempty) before now → now ≡ before
Counts-some_taken n nonempty before now some_taken counted = grind (arith, nat_tests)
