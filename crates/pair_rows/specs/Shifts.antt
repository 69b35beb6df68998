-- What a decision does to the later variables: how far it shifts their benefits, and what makes its gain.
use Rattle.std.specs.Int.{w64, int_wrap}
use Rattle.std.specs.Prelude.{◌≡◌, ℕ, ℤ, pos, ◌+ℤ◌, ◌-ℤ◌, List, map}
use Rattle.std.specs.Int.RustNames.{int_div}
use Rattle.benefit_rows.specs.Benefits.{rank_of, sums_of}
use Rattle.pair_rows.specs.declared.values.PairValues.{PairValues}
use Rattle.pair_rows.specs.Hashes.{polynomial}
use Rattle.pair_rows.specs.Pairs.{rows_of, total_by}
use Rattle.pair_rows.specs.Program.{given_yes, given_no}

-- how far the decision shifts the benefit of a later variable
abbrev pub shift_of : ℕ → PairValues → ℤ
shift_of d p = given_yes p d -ℤ given_no p d

abbrev pub shifts_of : ℕ → List PairValues → List ℤ
shifts_of d row = map (shift_of d) row

-- what an entry gives on both sides of the later variable
abbrev pub stake_of : ℕ → PairValues → ℤ
stake_of d p = given_yes p d +ℤ given_no p d

abbrev pub stakes_of : ℕ → List PairValues → ℤ
stakes_of d row = total_by (stake_of d) row

-- what the shifts add to the hash of a state
abbrev pub change_of : List ℤ → ℤ
change_of shifts = int_wrap w64 (polynomial shifts)

-- what is kept of a decision: the shifts by pair, and by first variable the stakes and what is added to the hash
pub record AreShifts (d variables : ℕ) (pairs : List PairValues) (cells stakes changes : List ℤ) : Type 0 where
  pub cells_are : cells ≡ shifts_of d pairs
  pub stakes_are : stakes ≡ map (stakes_of d) (rows_of variables pairs)
  pub changes_are : changes ≡ map change_of (rows_of variables cells)

-- half of the stakes and of what the benefits lose in size when they are shifted
abbrev pub half_lost : ℤ → List ℤ → List ℤ → ℤ
half_lost stakes benefits shifts = int_div ((rank_of benefits +ℤ stakes) -ℤ rank_of (sums_of benefits shifts)) (pos 2)
