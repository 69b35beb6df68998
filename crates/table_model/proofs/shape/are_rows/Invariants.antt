use Rattle.std.proofs.Common.{◌≡◌, map, drop}
use Rattle.std.specs.List.{list_all}
use Rattle.table_model.specs.Shape.{is_row}
use Rattle.table_model.proofs.Grids.{rest_pass}
use Rattle.table_model.proofs.shape.are_rows.Given as goal

-- the rows that are left decide
abbrev pub invariant-rows : goal.invariant-rows
invariant-rows g l = list_all (is_row (g.T.Cell.between l.least l.most) l.width) (map (λ r. r.items) l.rows)
    ≡ rest_pass (is_row (g.T.Cell.between l.least l.most) l.width) (λ r. r.items) l.rows l.row-index
