-- The dynamic program of an instance: that of its variables and pairs with what their clauses give. Layer k gives variable k its value, and
-- a state has for each later variable the net benefit of making it true, among the clauses that are decided but for it.
use Rattle.std.specs.Prelude.{ℤ, List, map}
use Rattle.dp_model.specs.Dp.{Dp}
use Rattle.pair_rows.specs.declared.values.UnitValues.{UnitValues}
use Rattle.pair_rows.specs.declared.values.PairValues.{PairValues}
use Rattle.pair_rows.specs.Instance.{Instance as Rows}
use Rattle.pair_rows.specs.Program.{program_of}
use Rattle.max_two_sat.specs.declared.weights.UnitWeights.{UnitWeights}
use Rattle.max_two_sat.specs.declared.weights.PairWeights.{PairWeights}
use Rattle.max_two_sat.specs.Instance.{Instance, unit_total, pair_total}
use Rattle.max_two_sat.specs.Numbers.{instance_of}
use Rattle.max_two_sat.specs.OwnWords.{unit_value, pair_value}

-- what the clauses of an entry give, by the values of its variables
abbrev pub unit_values : UnitWeights → UnitValues
unit_values u = record { if_no = unit_value u 0; if_yes = unit_value u 1; most = unit_total u }

abbrev pub pair_values : PairWeights → PairValues
pair_values p = record { no_no = pair_value p 0 0; no_yes = pair_value p 0 1; yes_no = pair_value p 1 0; yes_yes = pair_value p 1 1; most = pair_total p }

-- the variables and pairs of an instance
abbrev pub rows_in : Instance → Rows
rows_in i = record { constant = i.tautologies; first = 2; units = map unit_values i.units; pairs = map pair_values i.pairs }

-- what the numbers of an instance list
abbrev pub listed : List ℤ → Rows
listed numbers = rows_in (instance_of numbers)

-- the program that they spell
abbrev pub program : List ℤ → Dp
program numbers = program_of (listed numbers)
