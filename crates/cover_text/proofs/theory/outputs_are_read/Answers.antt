use Rattle.cover_text.proofs.OutputsRead.{outputs_read}
use Rattle.cover_text.proofs.theory.outputs_are_read.Goals as goal

pub returns : goal.returns
returns c = outputs_read
