-- The error of a step whose record was not added.
use Rattle.journal_file.specs.declared.append_error.AppendError.{AppendError}
use Rattle.journal_file.specs.declared.append_error.AppendError.TheVariants as appending
use Rattle.kept_board.specs.declared.error.KeptError.{KeptError}
use Rattle.kept_board.specs.declared.error.KeptError.TheVariants as kept

abbrev pub error_of : AppendError → KeptError
error_of appending.Disk = kept.Journal
error_of appending.OutOfMemory = kept.OutOfMemory
