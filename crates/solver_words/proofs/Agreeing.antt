-- What the rows that clap found say of a line.
use Rattle.std.specs.Prelude.{◌≡◌, List, Option, Some, None}
use Rattle.clap.specs.Walk.{Row}
use Rattle.solver_words.specs.Grammar.{Syntax, Argument}
use Rattle.solver_words.specs.Commands.{RowsTell}

-- where there is no line there are no rows, and otherwise rows that tell what its arguments do
abbrev pub RowsAgree : Syntax → Option (List Argument) → Option (List Row) → Type 0
RowsAgree f None found = found ≡ None
RowsAgree f (Some arguments) found = (rows : List Row) × (found ≡ Some rows) × RowsTell f arguments rows
