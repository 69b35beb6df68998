-- The dynamic program: that of the variables and pairs with the weight of each line where both of its variables are 1.
use Rattle.std.specs.Prelude.{ℤ, List, fold}
use Rattle.dp_model.specs.Dp.{Dp}
use Rattle.pair_rows.specs.Instance.{Instance}
use Rattle.pair_rows.specs.Program.{program_of as program_of_rows}
use Rattle.pair_problem.specs.Adding.{nothing_of, with_product}
use Rattle.qubo.specs.declared.line.Line.{Line}
use Rattle.qubo.specs.Quadratic.{Quadratic, instance_of}

-- with what a line gives
abbrev pub with_line : Instance → Line → Instance
with_line i l = with_product i l.first l.second l.weight

-- the variables and pairs of an instance
abbrev pub rows_in : Quadratic → Instance
rows_in q = fold with_line (nothing_of q.variables) q.lines

-- the program that the numbers of an instance spell
abbrev pub listed : List ℤ → Instance
listed numbers = rows_in (instance_of numbers)

abbrev pub program : List ℤ → Dp
program numbers = program_of_rows (listed numbers)
