use Rattle.std.proofs.Common.{◌≡◌, map}
use Rattle.serde_json.specs.View.{items_view}
use Rattle.table_model.specs.Document.{list_of, row_of}
use Rattle.table_model.proofs.Lists.{following}
use Rattle.table_model.proofs.cells.rows_in.Given as goal

-- the rows so far and those that are left make all
abbrev pub invariant-rows : goal.invariant-rows
invariant-rows g l = list_of (row_of g.T.Cell.spelled) (items_view l.values) ≡ following (row_of g.T.Cell.spelled) l.values (map (λ r. r.items) l.rows.items) l.value-index
