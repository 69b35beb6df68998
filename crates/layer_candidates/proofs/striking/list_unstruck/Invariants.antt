use Rattle.std.proofs.Common.{◌≡◌, ◌≤◌, ◌++◌, not, filter, drop, vec_capacity, vec_len}
use Rattle.layer_candidates.specs.HeldRows.{HasLeft}
use Rattle.layer_candidates.specs.KeyOrder.{key_at, key_rows}
use Rattle.layer_candidates.specs.Pruning.{struck}
use Rattle.row_region.specs.Layout.{table}
use Rattle.layer_candidates.specs.Ways.{rows_of}
use Rattle.layer_candidates.proofs.striking.list_unstruck.Given as goal

abbrev pub invariant-ways : goal.invariant-ways
invariant-ways g l = record {
  keys : l.keys.items ≡ filter (λ key. not (struck (g.M.DpModel.meaning (g.M.DpModel.numbers l.model)) l.k l.threshold l.fn.region key)) (table (key_at l.ways) l.i);
  left : HasLeft l.fn.region (rows_of l.ways) l.region (key_rows l.keys.items ++ rows_of (drop l.i l.ways));
  len : vec_len l.keys ≤ l.i;
  capacity : vec_capacity l.keys ≡ vec_capacity l.fn.keys;
}
