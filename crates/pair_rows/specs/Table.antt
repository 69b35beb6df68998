-- What the rows from each layer on give at most, and the limits of each layer.
use Rattle.std.specs.Prelude.{ℕ, zero, suc, ℤ, pos, List, [], ◌∷◌, ◌++◌}
use Rattle.pair_rows.specs.declared.values.PairValues.{PairValues}
use Rattle.pair_rows.specs.declared.values.UnitValues.{UnitValues}
use Rattle.pair_rows.specs.Instance.{rows_most}
use Rattle.pair_rows.specs.Program.{limits_at}

-- what the rows from each layer on give at most, and zero for the end
abbrev pub later_totals : List (List PairValues) → List ℤ
later_totals [] = pos 0 ∷ []
later_totals (row ∷ rows) = rows_most (row ∷ rows) ∷ later_totals rows

-- the limits of the layers up to one
abbrev pub limits_through : List UnitValues → List PairValues → ℕ → List (List ℤ)
limits_through units pairs zero = limits_at units pairs 0 ∷ []
limits_through units pairs (suc k) = limits_through units pairs k ++ limits_at units pairs (suc k) ∷ []
