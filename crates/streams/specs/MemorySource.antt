-- A source in memory.
use Rattle.std.specs.Prelude.{ℕ, List}

-- the bytes that are left, the number of the next call, the numbers of the calls that fail, and how many have failed
pub record SourceData : Type 0 where
  pub left : List ℕ
  pub calls : ℕ
  pub failing : List ℕ
  pub faults : ℕ
