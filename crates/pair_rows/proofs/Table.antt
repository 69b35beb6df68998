-- What is later than each row.
use Rattle.std.specs.Prelude.{◌≡◌, ℕ, zero, suc, ◌+◌, ◌≤◌, ℤ, List, [], ◌∷◌, length, drop, refl}
use Rattle.std.proofs.Common.{arith, get_or}
use Rattle.pair_rows.specs.declared.values.PairValues.{PairValues}
use Rattle.pair_rows.specs.Instance.{rows_most}
use Rattle.pair_rows.specs.Table.{later_totals}

pub later_totals-at : (rows : List (List PairValues)) (k : ℕ) (d : ℤ) → k ≤ length rows → get_or (later_totals rows) k d ≡ rows_most (drop k rows)
later_totals-at [] zero d h = refl
later_totals-at [] (suc k) d h = absurd (omega arith)
later_totals-at (row ∷ rows) zero d h = refl
later_totals-at (row ∷ rows) (suc k) d h = later_totals-at rows k d (omega arith)

pub length-later_totals : (rows : List (List PairValues)) → length (later_totals rows) ≡ length rows + 1
length-later_totals [] = refl
length-later_totals (row ∷ rows) = omega (arith, length-later_totals rows)
