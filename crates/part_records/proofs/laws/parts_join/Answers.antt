use Rattle.part_records.proofs.Joining.{parts-joined}
use Rattle.part_records.proofs.laws.parts_join.Goals as goal

pub returns : goal.returns
returns c = λ dp b of found g h some. parts-joined dp b of found g h some
