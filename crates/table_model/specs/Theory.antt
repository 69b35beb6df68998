-- A table as a problem of the program: its instances are read and none is drawn.
use Rattle.std.specs.Prelude.{List, None}
use Rattle.problem_theory.specs.Theory.{Theory, as_numbers}
use Rattle.problem_theory.specs.declared.refusal.InstanceRefusal.TheVariants.{Table}
use Rattle.problem_theory.specs.declared.read_error.ReadInstanceError.{ReadInstanceError}
use Rattle.problem_theory.specs.declared.read_error.ReadInstanceError.TheVariants as problems
use Rattle.table_model.specs.declared.error.ReadTableError.{ReadTableError}
use Rattle.table_model.specs.declared.error.ReadTableError.TheVariants.{Refused, OutOfMemory}
use Rattle.table_model.specs.Numbers.{numbers_of, table_spelled}
use Rattle.table_model.specs.OwnWords.{own_value}
use Rattle.table_model.specs.Printing.{text_of}
use Rattle.table_model.specs.Program.{program_of}
use Rattle.table_model.specs.Reading.{table_text}

abbrev pub table_theory : Theory
table_theory = record {
  spelled = λ bytes. as_numbers Table numbers_of (table_text bytes);
  program = λ numbers. program_of (table_spelled numbers);
  canonical = λ numbers. text_of (table_spelled numbers);
  own_value = λ numbers x. own_value (table_spelled numbers) x;
  drawing = None;
}

-- why a document is not read, among the reasons for any text
abbrev pub of_table : ReadTableError → ReadInstanceError
of_table (Refused e) = problems.Refused (Table e)
of_table OutOfMemory = problems.OutOfMemory
