-- What is known of a state without its row.
use Rattle.std.specs.Prelude.{◌≡◌, ℕ, ℤ, List}
use Rattle.dp_model.specs.Dp.{Dp}
use Rattle.dp_model.specs.declared.model.Fingerprint.{Fingerprint}

-- the rank and the hash are those of the state of the layer at depth k
pub record IsFingerprint (dp : Dp) (k : ℕ) (s : List ℤ) (print : Fingerprint) : Type 0 where
  pub rank : print.rank ≡ dp.rank k s
  pub hash : print.hash ≡ dp.hash k s
