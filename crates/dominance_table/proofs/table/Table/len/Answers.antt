use Rattle.std.proofs.Common.{length, sym, ◌∙◌, ap}
use Rattle.dominance_table.specs.Entries.{TableView}
use Rattle.dominance_table.proofs.Rows.{length_with_rows}
use Rattle.dominance_table.proofs.table.Table.len.Goals as goal

pub returns-clause-len : goal.returns-clause-len
returns-clause-len c =
    c.len.ensures ∙ (c.self.inside.entries.ok.0 ∙ (sym (length_with_rows c.self.inside.words c.self.inside.entries.items c.self.inside.cells.items) ∙ ap (λ (t : TableView). length t.entries) c.self.view_is))
