-- What a step and its gain ask of the row of a layer's variable.
use Rattle.std.specs.Prelude.{◌≡◌, ℕ, suc, ◌+◌, ◌^◌, ℤ, pos, ◌≤ℤ◌, List, length, drop, IsTrue}
use Rattle.benefit_rows.specs.Benefits.{rank_of}
use Rattle.pair_rows.specs.declared.values.PairValues.{PairValues}
use Rattle.pair_rows.specs.Instance.{pairs_most}
use Rattle.pair_rows.specs.Limits.{pairs_fit}

-- beside a state of layer k: an entry for each later variable, all of them in range, and sums of at most 2^48
pub record FitsState (row : List PairValues) (k : ℕ) (s : List ℤ) : Type 0 where
  pub entries : length row + suc k ≡ length s
  pub positive : IsTrue (pairs_fit row)
  pub weight : pairs_most row ≤ℤ pos (2 ^ 48)
  pub rank : rank_of (drop k s) ≤ℤ pos (2 ^ 48)
