use Rattle.part_records.proofs.Joining.{parts-all}
use Rattle.part_records.proofs.laws.parts_are_all.Goals as goal

pub returns : goal.returns
returns c = parts-all
