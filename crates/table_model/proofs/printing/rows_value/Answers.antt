use Rattle.std.proofs.Common.{◌≡◌, ◌≤◌, List, length, map, take, ap, ◌∙◌, arith}
use Rattle.std.proofs.lemmas.List.{take_all}
use Rattle.serde_json.specs.Data.{Data, array}
use Rattle.serde_json.specs.View.{view, items_of}
use Rattle.serde_json.proofs.Views.{view-Array}
use Rattle.table_model.specs.Printing.{row_tree}
use Rattle.table_model.proofs.Trees.{map_twice}
use Rattle.table_model.proofs.printing.rows_value.Goals as goal

pub returns : goal.returns
returns g c =
    let rows = c.args.rows.now in
    let past : length rows ≤ c.rows.row-index = (let t = c.rows-test.false in omega (arith, t)) in
    view-Array c.rows.values
    ∙ ap (λ (l : List Data). array (items_of l)) (c.rows.invariant ∙ ap (map (λ r. row_tree g.T.Cell.tree r.items)) (take_all c.rows.row-index rows past) ∙ map_twice (row_tree g.T.Cell.tree) (λ r. r.items) rows)
