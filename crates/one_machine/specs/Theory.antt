-- One machine with weighted tardiness as a problem of the program.
use Rattle.std.specs.Prelude.{List}
use Rattle.std.proofs.Common.{sym, subst}
use Rattle.dp_model.specs.Solution.{SolutionGives}
use Rattle.one_machine.specs.Instance.{Job, instance_of, numbers_of}
use Rattle.one_machine.specs.OwnWords.{order_value}
use Rattle.one_machine.specs.Program.{program, program_of}
use Rattle.one_machine.specs.Laws.Limits.{instance_of-numbers_of}
use Rattle.one_machine.specs.Laws.Orders.{own_words_solve}
use Rattle.one_machine.specs.Texts.{instance_text, text_of}
use Rattle.one_machine.specs.Generating.{generated}
use Rattle.problem_names.specs.declared.ModelName.TheVariants as problems
use Rattle.problem_theory.specs.Theory.{Theory, Agrees, drawing_of, with_numbers}

abbrev pub order_theory : Theory
order_theory = record {
  spelled = λ bytes. with_numbers numbers_of (instance_text bytes);
  program = program;
  canonical = λ numbers. text_of (instance_of numbers);
  own_value = λ numbers x. order_value (instance_of numbers) x;
  drawing = drawing_of problems.OneMachine (λ n seed. numbers_of (generated n seed));
}

-- its own words and its program speak of the same solutions
pub order_agrees : (jobs : List Job) → Agrees (program (numbers_of jobs)) (order_theory.own_value (numbers_of jobs))
order_agrees jobs = λ x. subst (λ l. SolutionGives (program_of l) x (order_value l x)) (sym (instance_of-numbers_of jobs)) (own_words_solve jobs x)
