use Rattle.max_cut.specs.Laws.Cuts.{own_words_solve}
use Rattle.max_cut.specs.Shown.{instance_in}
use Rattle.max_cut.proofs.value.value_of.Goals as goal

pub returns-clause-solution : goal.returns-clause-solution
returns-clause-solution c = rw c.cut_weight.ensures (own_words_solve (instance_in c.args.model.now) c.args.model.now.graph c.args.decisions.now)
