-- Quadratic optimisation as a problem of the program.
use Rattle.std.proofs.Common.{sym, subst}
use Rattle.dp_model.specs.Solution.{SolutionGives}
use Rattle.pair_rows.specs.Limits.{IsInstance}
use Rattle.pair_rows.specs.Program.{program_of}
use Rattle.problem_names.specs.declared.ModelName.TheVariants as problems
use Rattle.problem_theory.specs.Theory.{Theory, Agrees, drawing_of, with_numbers}
use Rattle.qubo.specs.Quadratic.{Quadratic, IsQuadratic, instance_of, numbers_of}
use Rattle.qubo.specs.OwnWords.{own_value}
use Rattle.qubo.specs.Printing.{text_of}
use Rattle.qubo.specs.Program.{listed, program, rows_in}
use Rattle.qubo.specs.Reading.{instance_text}
use Rattle.qubo.specs.Generating.{generated}
use Rattle.qubo.specs.Laws.Numbers.{instance_of-numbers_of}
use Rattle.qubo.specs.Laws.Listing.{rows-kept, own_words_solve}

abbrev pub qubo_theory : Theory
qubo_theory = record {
  spelled = λ bytes. with_numbers numbers_of (instance_text bytes);
  program = program;
  canonical = λ numbers. text_of (instance_of numbers);
  own_value = λ numbers x. own_value (instance_of numbers) x;
  drawing = drawing_of problems.Qubo (λ n seed. numbers_of (generated n seed));
}

-- what is listed keeps to the limits
pub qubo_kept : (q : Quadratic) → IsQuadratic q → IsInstance (listed (numbers_of q))
qubo_kept q h = subst (λ (r : Quadratic). IsInstance (rows_in r)) (sym (instance_of-numbers_of q)) (rows-kept q h)

-- its own words and its program speak of the same solutions
pub qubo_agrees : (q : Quadratic) → IsQuadratic q → Agrees (program (numbers_of q)) (qubo_theory.own_value (numbers_of q))
qubo_agrees q h = λ x. subst (λ (r : Quadratic). SolutionGives (program_of (rows_in r)) x (own_value r x)) (sym (instance_of-numbers_of q)) (own_words_solve q h x)
