use Rattle.part_records.proofs.Settling.{parts-settled}
use Rattle.part_records.proofs.laws.parts_settle.Goals as goal

pub returns : goal.returns
returns c = parts-settled
