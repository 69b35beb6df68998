use Rattle.dp_laws.proofs.Restricted.Sorting.{sorting-expands}
use Rattle.dp_laws.proofs.expansions.sorting_expands.Goals as goal

pub returns : goal.returns
returns c = sorting-expands
