use Rattle.std.proofs.Common.{◌≡◌, map, drop}
use Rattle.std.specs.List.{list_all}
use Rattle.table_model.proofs.shape.are_between.Given as goal

-- the cells that are left decide
abbrev pub invariant-cells : goal.invariant-cells
invariant-cells g l = list_all (g.T.Cell.between l.least l.most) l.row ≡ list_all (g.T.Cell.between l.least l.most) (drop l.cell-index l.row)
