use Rattle.table_model.specs.Laws.Solutions.{own_words_solve}
use Rattle.table_model.specs.Shown.{table_shown}
use Rattle.table_model.proofs.value.value_of.Goals as goal

pub returns-clause-solution : goal.returns-clause-solution
returns-clause-solution c =
    let m = c.args.model.now in
    rw c.summed.ensures (own_words_solve (table_shown m) (record { root_value = m.small; some = m.some; few = m.few; layers = m.layered }) c.args.decisions.now)
