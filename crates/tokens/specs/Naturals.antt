-- Grammars of natural numbers.
use Rattle.std.specs.Prelude.{ℕ, pos, nat_abs, Result}
use Rattle.tokens.specs.Text.{TextState}
use Rattle.tokens.specs.Grammar.{InstanceError, number_then}

-- a natural number from least to greatest, and what is read after it
abbrev pub natural_then : {B : Type 0} → ℕ → ℕ → TextState → (ℕ → TextState → Result B InstanceError) → Result B InstanceError
natural_then least greatest s more = number_then (pos least) (pos greatest) s (λ z t. more (nat_abs z) t)
