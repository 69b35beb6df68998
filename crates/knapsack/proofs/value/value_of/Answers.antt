use Rattle.knapsack.specs.Laws.Program.{own_words_solve}
use Rattle.knapsack.specs.Shown.{instance_in}
use Rattle.knapsack.proofs.value.value_of.Goals as goal

pub returns-clause-solution : goal.returns-clause-solution
returns-clause-solution c = rw c.packed.ensures (own_words_solve (instance_in c.args.model.now) c.args.decisions.now)
