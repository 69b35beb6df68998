-- What contracts see of a table in memory.
use Rattle.dp_model.specs.Dp.{Dp}
use Rattle.table_model.specs.declared.table.TableModel.{TableModel}
use Rattle.table_model.specs.Program.{program_of}
use Rattle.table_model.specs.Table.{Table}

abbrev pub table_shown : TableModel → Table
table_shown m = record { root_value = m.root_value; layers = m.layers.items }

-- its dynamic program
abbrev pub program_shown : TableModel → Dp
program_shown m = program_of (table_shown m)
