-- Tours with time windows as a problem of the program.
use Rattle.std.specs.Prelude.{◌≡◌, IsTrue}
use Rattle.std.proofs.Common.{sym, subst}
use Rattle.dp_model.specs.Solution.{SolutionGives}
use Rattle.tsp_windows.specs.Instance.{Instance, is_small, numbers_of, instance_of}
use Rattle.tsp_windows.specs.Laws.Limits.{is_small-gives}
use Rattle.tsp_windows.specs.OwnWords.{tour_value}
use Rattle.tsp_windows.specs.Laws.Tours.{solution_gives}
use Rattle.tsp_windows.specs.Program.{program, program_of}
use Rattle.tsp_windows.specs.Texts.{spelled, printed}
use Rattle.tsp_windows.specs.Generating.{generated}
use Rattle.problem_names.specs.declared.ModelName.TheVariants as problems
use Rattle.problem_theory.specs.Theory.{Theory, Agrees, drawing_of, with_numbers}

abbrev pub tour_theory : Theory
tour_theory = record {
  spelled = λ bytes. with_numbers numbers_of (spelled bytes);
  program = program;
  canonical = λ numbers. printed (instance_of numbers);
  own_value = λ numbers x. tour_value (instance_of numbers) x;
  drawing = drawing_of problems.TspWindows (λ n seed. numbers_of (generated n seed));
}

-- its own words and its program speak of the same solutions
pub tour_agrees : (i : Instance) → IsTrue (is_small i) → instance_of (numbers_of i) ≡ i → Agrees (program (numbers_of i)) (tour_theory.own_value (numbers_of i))
tour_agrees i small same = λ x. subst (λ j. SolutionGives (program_of j) x (tour_value j x)) (sym same) (solution_gives i x (is_small-gives i small))
