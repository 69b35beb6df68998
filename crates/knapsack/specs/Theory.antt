-- The bounded knapsack as a problem of the program.
use Rattle.std.proofs.Common.{sym, subst}
use Rattle.dp_model.specs.Solution.{SolutionGives}
use Rattle.knapsack.specs.Instance.{Instance, instance_of, numbers_of}
use Rattle.knapsack.specs.OwnWords.{packed_value}
use Rattle.knapsack.specs.Printing.{text_of}
use Rattle.knapsack.specs.Program.{program, program_of}
use Rattle.knapsack.specs.Laws.Program.{instance_of-numbers_of, own_words_solve}
use Rattle.knapsack.specs.Reading.{instance_text}
use Rattle.knapsack.specs.Generating.{generated}
use Rattle.problem_names.specs.declared.ModelName.TheVariants as problems
use Rattle.problem_theory.specs.Theory.{Theory, Agrees, drawing_of, with_numbers}

abbrev pub knapsack_theory : Theory
knapsack_theory = record {
  spelled = λ bytes. with_numbers numbers_of (instance_text bytes);
  program = program;
  canonical = λ numbers. text_of (instance_of numbers);
  own_value = λ numbers x. packed_value (instance_of numbers) x;
  drawing = drawing_of problems.Knapsack (λ n seed. numbers_of (generated n seed));
}

-- its own words and its program speak of the same solutions
pub knapsack_agrees : (i : Instance) → Agrees (program (numbers_of i)) (knapsack_theory.own_value (numbers_of i))
knapsack_agrees i = λ x. subst (λ j. SolutionGives (program_of j) x (packed_value j x)) (sym (instance_of-numbers_of i)) (own_words_solve i x)
