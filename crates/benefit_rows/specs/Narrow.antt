-- Rows whose differences are small numbers.
use Rattle.std.specs.Prelude.{◌^◌, ◌<ℤ◌, pos, ℤ, List}
use Rattle.benefit_rows.specs.Benefits.{rank_of}

-- the sums of sizes of both rows are below 2^30, so that the sum of the sizes of their differences fits 32 bits
pub record AreNarrow (from to : List ℤ) : Type 0 where
  pub from_rank : rank_of from <ℤ pos (2 ^ 30)
  pub to_rank : rank_of to <ℤ pos (2 ^ 30)
