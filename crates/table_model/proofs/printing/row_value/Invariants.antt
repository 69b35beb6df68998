use Rattle.std.proofs.Common.{◌≡◌, map, take}
use Rattle.serde_json.specs.View.{view}
use Rattle.table_model.proofs.printing.row_value.Given as goal

-- the cells so far
abbrev pub invariant-cells : goal.invariant-cells
invariant-cells g l = map view l.values.items ≡ map g.T.Cell.tree (take l.cell-index l.row)
