use Rattle.layer_candidates.specs.HeldRows.{held_row}
use Rattle.layer_nodes.proofs.MergedKeys.{AreLed}
use Rattle.layer_nodes.proofs.reducing.lead_to_merged.Given as goal

abbrev pub invariant-keys : goal.invariant-keys
invariant-keys g l = AreLed (g.M.DpModel.meaning (g.M.DpModel.numbers l.model)) l.k (held_row l.region) l.into.state.now l.into.place l.keys l.fn.routes l.best l.routes l.i
