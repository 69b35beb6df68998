use Rattle.std.proofs.Common.{◌∙◌}
use Rattle.pair_problem.specs.Laws.Adding.{entries_before-all}
use Rattle.pair_problem.proofs.places.count_of_pairs.Goals as goal

pub returns : goal.returns
returns c = c.start_of_row.ensures ∙ entries_before-all c.args.variables
