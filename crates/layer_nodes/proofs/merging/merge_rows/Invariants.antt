use Rattle.std.proofs.Common.{map}
use Rattle.layer_candidates.specs.HeldRows.{held_row}
use Rattle.layer_nodes.proofs.Merged.{IsMerging}
use Rattle.layer_nodes.proofs.merging.merge_rows.Given as goal

abbrev pub invariant-things : goal.invariant-things
invariant-things g l = IsMerging (g.M.DpModel.meaning (g.M.DpModel.numbers l.model)) l.k (held_row l.region) (map g.T.HasRow.place l.things) l.into l.i
