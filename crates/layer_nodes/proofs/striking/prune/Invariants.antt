use Rattle.std.proofs.Common.{◌≡◌, vec_capacity}
use Rattle.layer_candidates.specs.HeldRows.{held_row}
use Rattle.layer_nodes.specs.Striking.{ArePruned}
use Rattle.layer_nodes.proofs.Given.{AreGiven}
use Rattle.layer_nodes.proofs.striking.prune.Given as goal

abbrev pub invariant-nodes : goal.invariant-nodes
invariant-nodes g l = record {
  pruned : ArePruned (g.M.DpModel.meaning (g.M.DpModel.numbers l.model)) l.k l.strikes (held_row l.fn.region) l.fn.nodes l.leaders.items l.nodes l.redirects.items l.stay l.i;
  given : AreGiven l.fn.region l.fn.nodes l.nodes l.leaders.items l.region l.stay l.i;
  leaders_capacity : vec_capacity l.leaders ≡ vec_capacity l.fn.leaders;
  redirects_capacity : vec_capacity l.redirects ≡ vec_capacity l.fn.redirects;
}
