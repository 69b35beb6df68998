use Rattle.part_records.proofs.Joining.{parts-joined-from}
use Rattle.part_records.proofs.laws.parts_join_from.Goals as goal

pub returns : goal.returns
returns c = λ dp starts b of found g h some settled. parts-joined-from dp starts b of found g h some settled
