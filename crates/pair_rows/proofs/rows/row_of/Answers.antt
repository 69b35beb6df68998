use Rattle.std.proofs.Common.{sym, ◌∙◌}
use Rattle.pair_rows.specs.Laws.Pairs.{row_at-is}
use Rattle.pair_rows.proofs.rows.row_of.Goals as goal

pub returns : goal.returns
returns g c = c.part_of_row.ensures ∙ sym (row_at-is c.args.variables c.args.k c.args.entries.now c.requires.variable)
