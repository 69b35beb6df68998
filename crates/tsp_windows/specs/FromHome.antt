-- What makes three sets those of a state.
use Rattle.std.specs.Prelude.{◌≡◌, ℕ, false, List, ℤ}
use Rattle.node_sets.specs.Sets.{has}

-- some position, and node 0 in neither other set
pub record IsFromHome (positions must may : List ℤ) : Type 0 where
  pub some : ((v : ℕ) → has positions v ≡ false) → ⊥
  pub no_must : has must 0 ≡ false
  pub no_may : has may 0 ≡ false
