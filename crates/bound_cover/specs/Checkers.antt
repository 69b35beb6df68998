-- A checker as callers see it.
use Rattle.std.specs.Prelude.{ℕ}

-- the number of words of a state of the model that it was prepared for
pub record CheckerView : Type 0 where
  pub words : ℕ
