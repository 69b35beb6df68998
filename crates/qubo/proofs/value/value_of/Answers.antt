use Rattle.qubo.specs.Laws.Listing.{own_words_solve}
use Rattle.qubo.specs.Shown.{instance_in}
use Rattle.qubo.proofs.value.value_of.Goals as goal

pub returns-clause-solution : goal.returns-clause-solution
returns-clause-solution c = rw c.sum_where_one.ensures (own_words_solve (instance_in c.args.model.now) c.args.model.now.kept c.args.decisions.now)
