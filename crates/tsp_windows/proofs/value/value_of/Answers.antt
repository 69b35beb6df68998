use Rattle.std.proofs.Common.{sym, subst}
use Rattle.dp_model.specs.Solution.{SolutionGives}
use Rattle.tsp_windows.specs.Shown.{instance_in, program_in}
use Rattle.tsp_windows.specs.Laws.Limits.{is_small-gives}
use Rattle.tsp_windows.specs.Laws.Tours.{solution_gives}
use Rattle.tsp_windows.proofs.value.value_of.Goals as goal

pub returns-clause-solution : goal.returns-clause-solution
returns-clause-solution c =
    subst (SolutionGives (program_in c.args.model.now) c.args.decisions.now) (sym c.tour_value.ensures)
    (solution_gives (instance_in c.args.model.now) c.args.decisions.now (is_small-gives (instance_in c.args.model.now) c.args.model.now.small))
