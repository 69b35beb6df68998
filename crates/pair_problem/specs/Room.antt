-- Where a weight may be added.
use Rattle.std.specs.Prelude.{◌^◌, ◌<◌, ◌≤◌, ℕ, ℤ, pos, neg_ℤ, ◌+ℤ◌, ◌≤ℤ◌, length}
use Rattle.benefit_rows.specs.Benefits.{size_of}
use Rattle.pair_rows.specs.Instance.{Instance, units_most, pairs_most}
use Rattle.pair_rows.specs.Limits.{IsInstance}

-- what all entries give at most
abbrev pub most_of : Instance → ℤ
most_of i = units_most i.units +ℤ pairs_most i.pairs

-- two variables in order, perhaps the same, and limits that the weight keeps to
pub record HasRoom (i : Instance) (a b : ℕ) (w : ℤ) : Type 0 where
  pub kept : IsInstance i
  pub order : a ≤ b
  pub within : b < length i.units
  pub small : size_of w ≤ℤ pos (2 ^ 48)
  pub most : (most_of i +ℤ size_of w) ≤ℤ pos (2 ^ 48)
  pub low : (neg_ℤ (pos (2 ^ 48)) +ℤ size_of w) ≤ℤ i.constant
