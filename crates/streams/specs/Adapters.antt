-- A source over a reader and a sink over a writer.
use Rattle.std.specs.Prelude.{ℕ}

-- the reader, and how many calls have failed
pub record Reading (R : Type 0) : Type 0 where
  pub reader : R
  pub faults : ℕ

-- the writer, how many calls have failed, and how many took nothing of a nonempty piece
pub record Writing (W : Type 0) : Type 0 where
  pub writer : W
  pub faults : ℕ
  pub idle : ℕ
