use Rattle.dp_laws.proofs.Widths.{widths-fit}
use Rattle.dp_laws.proofs.compiling.widths_fit.Goals as goal

pub returns : goal.returns
returns c = widths-fit
