-- A sink in memory.
use Rattle.std.specs.Prelude.{ℕ, List}

-- the bytes that were taken, how many fit before memory is asked for, the number of the next call, the numbers of the
-- calls that fail, and how many have failed
pub record SinkData : Type 0 where
  pub taken : List ℕ
  pub room : ℕ
  pub calls : ℕ
  pub failing : List ℕ
  pub faults : ℕ
