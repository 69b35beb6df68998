use Rattle.one_machine.specs.Laws.Orders.{own_words_solve}
use Rattle.one_machine.specs.Shown.{instance_in}
use Rattle.one_machine.proofs.value.value_of.Goals as goal

pub returns-clause-solution : goal.returns-clause-solution
returns-clause-solution c = rw c.order_value.ensures (own_words_solve (instance_in c.args.model.now) c.args.decisions.now)
