-- The members of a set that are still to come.
use Rattle.std.specs.Prelude.{◌≡◌, ℕ, ◌+◌, ◌*◌, ◌^◌, ◌<◌, ◌≤◌, not, ◌&&◌, nat_eq, nat_lt, ℤ, List, length}
use Rattle.std.specs.Int.{bit_at}
use Rattle.node_sets.specs.Sets.{AreWords, has}

-- the members of the row from a number on
pub record Coming : Type 0 where
  pub row : List ℤ
  pub from : ℕ

-- the bits are the members of a word from a number on, which lies in that word or just after it
pub record IsRest (row : List ℤ) (word from bits : ℕ) : Type 0 where
  pub cells : AreWords row
  pub short : length row < 2 ^ 32
  pub low : 32 * word ≤ from
  pub high : from ≤ 32 * word + 32
  pub left : (j : ℕ) → j < 32 → nat_eq (bit_at bits j) 1 ≡ (not (nat_lt (32 * word + j) from) && has row (32 * word + j))
