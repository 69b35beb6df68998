-- The own words of a table and its program speak of the same solutions.
use Rattle.std.proofs.Common.{sym, subst}
use Rattle.dp_model.specs.Solution.{SolutionGives}
use Rattle.problem_theory.specs.Theory.{Agrees}
use Rattle.table_model.specs.Laws.Coded.{table_spelled-numbers_of}
use Rattle.table_model.specs.Laws.Shaped.{IsTable}
use Rattle.table_model.specs.Laws.Solutions.{own_words_solve}
use Rattle.table_model.specs.Numbers.{numbers_of, table_spelled}
use Rattle.table_model.specs.OwnWords.{own_value}
use Rattle.table_model.specs.Program.{program_of}
use Rattle.table_model.specs.Table.{Table}
use Rattle.table_model.specs.Theory.{table_theory}

pub table_agrees : (t : Table) → IsTable t → Agrees (program_of (table_spelled (numbers_of t))) (table_theory.own_value (numbers_of t))
table_agrees t shape = λ x. subst (λ (u : Table). SolutionGives (program_of u) x (own_value u x)) (sym (table_spelled-numbers_of t)) (own_words_solve t shape x)
