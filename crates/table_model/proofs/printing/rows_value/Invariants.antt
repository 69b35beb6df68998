use Rattle.std.proofs.Common.{◌≡◌, map, take}
use Rattle.serde_json.specs.View.{view}
use Rattle.table_model.specs.Printing.{row_tree}
use Rattle.table_model.proofs.printing.rows_value.Given as goal

-- the rows so far
abbrev pub invariant-rows : goal.invariant-rows
invariant-rows g l = map view l.values.items ≡ map (λ r. row_tree g.T.Cell.tree r.items) (take l.row-index l.rows)
