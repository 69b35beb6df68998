use Rattle.std.proofs.Common.{◌∙◌}
use Rattle.bound_cover.specs.Exploring.{layer_of}
use Rattle.cover_join.proofs.Rows.{row_added}
use Rattle.cover_join.proofs.adding.push_rows.Goals as goal

pub loop-row-preserved : goal.loop-row-preserved
loop-row-preserved c = record {
  rows = row_added c.args.before (layer_of c.args.part.now c.args.layer) c.loop-row.row c.loop-row.cover c.push_row.new.cover _ c.in_ok-push_row.ensures.row c.loop-row.invariant.rows;
  layers = c.in_ok-push_row.ensures.layers ∙ c.loop-row.invariant.layers;
}
