use Rattle.cover_join.proofs.Rows.{first_added}
use Rattle.cover_join.proofs.joining.first_layer.Goals as goal

pub returns : goal.returns
returns c = first_added _ _ _ _ c.new-cover.ensures c.in_ok-add_layer.ensures.ok c.in_ok-push_rows.ensures.rows
