-- Variables of two values, and what each of them and each two of them give.
use Rattle.std.specs.Prelude.{ℕ, ℤ, pos, List}
use Rattle.pair_rows.specs.declared.values.UnitValues.{UnitValues}
use Rattle.pair_rows.specs.declared.values.PairValues.{PairValues}
use Rattle.pair_rows.specs.Pairs.{total_by}

-- what is given in any case, how many values the first variable may take, what each variable gives, and what each two variables i < j give, by i, then by j
pub record Instance : Type 0 where
  pub constant : ℤ
  pub first : ℕ
  pub units : List UnitValues
  pub pairs : List PairValues

-- the entries that give nothing
abbrev pub no_unit : UnitValues
no_unit = record { if_no = pos 0; if_yes = pos 0; most = pos 0 }

abbrev pub no_pair : PairValues
no_pair = record { no_no = pos 0; no_yes = pos 0; yes_no = pos 0; yes_yes = pos 0; most = pos 0 }

-- the instance of these entries alone
abbrev pub of_entries : List UnitValues → List PairValues → Instance
of_entries units pairs = record { constant = pos 0; first = 2; units = units; pairs = pairs }

-- what an entry gives at most
abbrev pub unit_most : UnitValues → ℤ
unit_most u = u.most

abbrev pub pair_most : PairValues → ℤ
pair_most p = p.most

-- what some entries give at most: variables, a row, and rows
abbrev pub units_most : List UnitValues → ℤ
units_most us = total_by unit_most us

abbrev pub pairs_most : List PairValues → ℤ
pairs_most ps = total_by pair_most ps

abbrev pub rows_most : List (List PairValues) → ℤ
rows_most rows = total_by pairs_most rows
