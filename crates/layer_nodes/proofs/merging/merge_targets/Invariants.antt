use Rattle.std.proofs.Common.{◌≡◌, vec_capacity}
use Rattle.layer_candidates.specs.HeldRows.{held_row}
use Rattle.layer_nodes.proofs.Merged.{AreLifted}
use Rattle.layer_nodes.proofs.merging.merge_targets.Given as goal

abbrev pub invariant-nodes : goal.invariant-nodes
invariant-nodes g l = record {
  lifted : AreLifted (g.M.DpModel.meaning (g.M.DpModel.numbers l.model)) l.k (held_row l.region) l.into.state.now l.nodes l.into.place l.fn.redirects.items l.best l.redirects.items l.i;
  capacity : vec_capacity l.redirects ≡ vec_capacity l.fn.redirects;
}
