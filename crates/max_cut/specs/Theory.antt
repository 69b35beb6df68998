-- Maximum cut as a problem of the program.
use Rattle.max_cut.specs.Laws.Cuts.{own_words_solve}
use Rattle.max_cut.specs.Cuts.{cut_value}
use Rattle.max_cut.specs.EdgeLines.{text_of}
use Rattle.max_cut.specs.Edges.{instance_text}
use Rattle.max_cut.specs.Graph.{Graph, IsGraph, instance_of, numbers_of}
use Rattle.pair_rows.specs.Limits.{IsInstance}
use Rattle.max_cut.specs.Laws.Listing.{rows-kept}
use Rattle.max_cut.specs.Program.{listed, program}
use Rattle.max_cut.specs.Generating.{generated}
use Rattle.problem_names.specs.declared.ModelName.TheVariants as problems
use Rattle.problem_theory.specs.Theory.{Theory, Agrees, drawing_of, with_numbers}

abbrev pub cut_theory : Theory
cut_theory = record {
  spelled = λ bytes. with_numbers numbers_of (instance_text bytes);
  program = program;
  canonical = λ numbers. text_of (instance_of numbers);
  own_value = λ numbers x. cut_value (instance_of numbers) x;
  drawing = drawing_of problems.MaxCut (λ n seed. numbers_of (generated n seed));
}

-- what is listed keeps to the limits
pub cut_kept : (g : Graph) → IsGraph g → IsInstance (listed (numbers_of g))
cut_kept g h = rows-kept g h

-- its own words and its program speak of the same solutions
pub cut_agrees : (g : Graph) → IsGraph g → Agrees (program (numbers_of g)) (cut_theory.own_value (numbers_of g))
cut_agrees g h = λ x. own_words_solve g h x
