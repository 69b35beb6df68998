-- Powers of two.
use Rattle.std.specs.Int.{IsPowerOfTwo}
use Rattle.std.proofs.Common.{ℕ, min, subst, sym, ◌⊎◌, ◌≡◌, inl, inr, arith}

either : (a b : ℕ) → (min a b ≡ a) ⊎ (min a b ≡ b)
either a b = grind arith

pub lesser : (a b : ℕ) → IsPowerOfTwo a → IsPowerOfTwo b → IsPowerOfTwo (min a b)
lesser a b p q = go (either a b)
  where
    go : (min a b ≡ a) ⊎ (min a b ≡ b) → IsPowerOfTwo (min a b)
    go (inl same) = subst IsPowerOfTwo (sym same) p
    go (inr same) = subst IsPowerOfTwo (sym same) q
