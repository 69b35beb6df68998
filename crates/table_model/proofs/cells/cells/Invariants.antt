use Rattle.std.proofs.Common.{◌≡◌}
use Rattle.serde_json.specs.View.{items_view}
use Rattle.table_model.specs.Document.{list_of}
use Rattle.table_model.proofs.Lists.{following}
use Rattle.table_model.proofs.cells.cells.Given as goal

-- the cells so far and those that are left make all
abbrev pub invariant-cells : goal.invariant-cells
invariant-cells g l = list_of g.T.Cell.spelled (items_view l.values) ≡ following g.T.Cell.spelled l.values l.cells.items l.value-index
