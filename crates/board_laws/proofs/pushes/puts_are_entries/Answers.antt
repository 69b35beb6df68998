use Rattle.board_laws.proofs.Pushing.{puts-are-entries}
use Rattle.board_laws.proofs.pushes.puts_are_entries.Goals as goal

pub returns : goal.returns
returns c = puts-are-entries
