-- Weighted MAX-2SAT as a problem of the program.
use Rattle.std.proofs.Common.{sym, subst}
use Rattle.tokens.specs.Text.{text_start}
use Rattle.tokens.specs.declared.comment.Comment.TheVariants.{LetterC}
use Rattle.dp_model.specs.Solution.{SolutionGives}
use Rattle.max_two_sat.specs.Instance.{Instance}
use Rattle.max_two_sat.specs.Numbers.{numbers_of, instance_of}
use Rattle.max_two_sat.specs.Laws.Numbers.{instance_of-numbers_of}
use Rattle.max_two_sat.specs.Limits.{IsWithinLimits}
use Rattle.max_two_sat.specs.OwnWords.{own_value}
use Rattle.max_two_sat.specs.Printed.{text_of}
use Rattle.pair_rows.specs.Limits.{IsInstance}
use Rattle.pair_rows.specs.Program.{program_of}
use Rattle.max_two_sat.specs.Program.{listed, program, rows_in}
use Rattle.max_two_sat.specs.Laws.Listing.{rows-kept}
use Rattle.max_two_sat.specs.Laws.Solutions.{own_value-agrees}
use Rattle.max_two_sat.specs.Texts.{instance_at}
use Rattle.max_two_sat.specs.Generating.{generated}
use Rattle.problem_names.specs.declared.ModelName.TheVariants as problems
use Rattle.problem_theory.specs.Theory.{Theory, Agrees, drawing_of, with_numbers}

abbrev pub sat_theory : Theory
sat_theory = record {
  spelled = λ bytes. with_numbers numbers_of (instance_at (text_start LetterC bytes));
  program = program;
  canonical = λ numbers. text_of (instance_of numbers);
  own_value = λ numbers x. own_value (instance_of numbers) x;
  drawing = drawing_of problems.MaxTwoSat (λ n seed. numbers_of (generated n seed));
}

-- what is listed keeps to the limits
pub sat_kept : (i : Instance) → IsWithinLimits i → IsInstance (listed (numbers_of i))
sat_kept i h = subst (λ (j : Instance). IsInstance (rows_in j)) (sym (instance_of-numbers_of i)) (rows-kept i h)

-- its own words and its program speak of the same solutions
pub sat_agrees : (i : Instance) → IsWithinLimits i → Agrees (program (numbers_of i)) (sat_theory.own_value (numbers_of i))
sat_agrees i h = λ x. subst (λ (j : Instance). SolutionGives (program_of (rows_in j)) x (own_value j x)) (sym (instance_of-numbers_of i)) (own_value-agrees i x h)
