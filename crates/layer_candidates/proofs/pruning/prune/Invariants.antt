use Rattle.std.proofs.Common.{◌≡◌, ◌++◌, drop, vec_capacity}
use Rattle.layer_candidates.specs.HeldRows.{HasLeft}
use Rattle.layer_candidates.specs.KeyOrder.{key_rows}
use Rattle.layer_candidates.specs.Pruning.{ArePruned}
use Rattle.layer_candidates.proofs.pruning.prune.Given as goal

abbrev pub invariant-keys : goal.invariant-keys
invariant-keys g l = record {
  pruned : ArePruned (g.M.DpModel.meaning (g.M.DpModel.numbers l.model)) l.k l.most l.fn.region l.keys l.kept.items l.i;
  left : HasLeft l.fn.region (key_rows l.keys) l.region (key_rows l.kept.items ++ key_rows (drop l.i l.keys));
  kept_capacity : vec_capacity l.kept ≡ vec_capacity l.fn.kept;
}
